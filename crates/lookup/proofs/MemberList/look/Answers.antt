-- `lookup::MemberList::look` meets its contract.
use Rattle.std.specs.Prelude.{Err}
use mathlib.Core.Path.{sym, ap, ◌∙◌}
use native.Mathlib.Omega.{arith}
use Rattle.format.proofs.Rows.{passed-on}
use Rattle.search.proofs.Searches.{place-at, place-nowhere}
use Rattle.lookup.proofs.Refusing.{set-kept, set-refused}
use Rattle.lookup.proofs.Ordering.{set-unordered, set-by}
use Rattle.lookup.proofs.Numbering.{definer-below, looked-refused, looked-none, looked-at}
use Rattle.lookup.proofs.MemberList.look.Goals as goal

pub returns-in_err-check : goal.returns-in_err-check
returns-in_err-check c =
    let k = set-refused _ _ (sym c.check.ensures ∙ c.in_err-check.was) in
    passed-on _ c.from_residual.ensures.1 ∙ ap Err k.1
    ∙ looked-refused _ _ _ _ (set-unordered _ c.args.self.set.laid _ c.args.self.within.0 (omega arith) k.0)

pub returns-in_err-i : goal.returns-in_err-i
returns-in_err-i c =
    let k = set-kept _ _ (sym c.check.ensures ∙ c.in_ok-check.was) in
    let l = set-refused _ _ (sym c.seek.ensures ∙ c.in_err-i.was) in
    passed-on _ c.from_residual-in_err-i.ensures.1 ∙ ap Err l.1
    ∙ looked-refused _ _ _ _ (set-by _ c.args.self.set.laid _ c.args.self.within.0 (omega arith) k.0 l.0)

pub answer-requires : goal.answer-requires
answer-requires c =
    let l = set-kept _ _ (sym c.seek.ensures ∙ c.in_ok-i.was) in
    omega (arith, c.args.self.within.2, definer-below _ _ _ _ _ c.args.self.within.1 (l.1 ∙ c.in-Some.is))

pub returns-in-Some : goal.returns-in-Some
returns-in-Some c =
    let k = set-kept _ _ (sym c.check.ensures ∙ c.in_ok-check.was) in
    let l = set-kept _ _ (sym c.seek.ensures ∙ c.in_ok-i.was) in
    looked-at _ _ _ _ _ (set-by _ c.args.self.set.laid _ c.args.self.within.0 (omega arith) k.0 l.0)
    (place-at _ _ (l.1 ∙ c.in-Some.is)) c.answer.ensures

pub returns-in-None : goal.returns-in-None
returns-in-None c =
    let k = set-kept _ _ (sym c.check.ensures ∙ c.in_ok-check.was) in
    let l = set-kept _ _ (sym c.seek.ensures ∙ c.in_ok-i.was) in
    looked-none _ _ _ _ (set-by _ c.args.self.set.laid _ c.args.self.within.0 (omega arith) k.0 l.0)
    (place-nowhere _ (l.1 ∙ c.in-None.is))
