-- `lookup::MemberList::definer` meets its contract.
use mathlib.Core.Bool.{true, false}
use mathlib.Core.Path.{◌≡◌, sym, ◌∙◌}
use Rattle.std.proofs.Common.{rules}
use Rattle.std.proofs.lemmas.Iterator.{first_from_Range}
use Rattle.lookup.specs.Numbered.{defines_at}
use Rattle.lookup.proofs.Numbering.{definer-searched, defines-yes, defines-no}
use Rattle.lookup.proofs.MemberList.definer.Goals as goal

pub returns-in_err-i : goal.returns-in_err-i
returns-in_err-i c =
    let b = c.args.self.set.bytes.now in
    let s = c.args.symbol.now in
    rw c.from_residual.ensures
    (sym c.in_err-i.was ∙ definer-searched b s _ _ _ c.args.self.within.1
    (first_from_Range _ _ _ _ (λ i. defines_at b s i ≡ true) (λ i. defines_at b s i ≡ false) c.find.ensures.ran
    (λ x q k. search (rules, defines-yes b s x))
    (λ x q k. search (rules, defines-no b s x))))

pub returns : goal.returns
returns c =
    let b = c.args.self.set.bytes.now in
    let s = c.args.symbol.now in
    sym c.in_ok-i.was ∙ definer-searched b s _ _ _ c.args.self.within.1
    (first_from_Range _ _ _ _ (λ i. defines_at b s i ≡ true) (λ i. defines_at b s i ≡ false) c.find.ensures.ran
    (λ x q k. search (rules, defines-yes b s x))
    (λ x q k. search (rules, defines-no b s x)))
