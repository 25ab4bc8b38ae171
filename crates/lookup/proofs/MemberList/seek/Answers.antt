-- `lookup::MemberList::seek` meets its contract.
use Prim.Native.Nat.{◌-◌}
use mathlib.Core.Path.{◌≡◌, refl, sym, ap, ◌∙◌}
use native.Mathlib.Omega.{arith}
use Rattle.search.specs.Search.{place_of}
use Rattle.format.proofs.Rows.{passed-on}
use Rattle.lookup.specs.Numbered.{ranked_from}
use Rattle.lookup.proofs.Refusing.{set-no, set-yes, set-kept, set-refused}
use Rattle.lookup.proofs.Saying.{ranked-kept, ranked-refused, rank-at}
use Rattle.lookup.proofs.Ordering.{ranked-next, ranked-not}
use Rattle.lookup.proofs.Numbering.{defines-at, definer-here, definer-later, definer-end}
use Rattle.lookup.proofs.MemberList.seek.Goals as goal

pub returns-in_err-said : goal.returns-in_err-said
returns-in_err-said c =
    let k = ranked-refused _ _ (omega arith) (sym c.read_ranked.ensures ∙ c.in_err-said.was) in
    set-no _ _ (passed-on _ c.from_residual.ensures.1) k.1
    (c.loop-i.invariant.0
    ∙ ranked-not _ _ 3 c.loop-i.i (omega (arith, c.loop-i-test.true, c.count-n.ensures.0, c.args.self.within.2)) (λ e. k.0 (rank-at _ _ c.member_at-member.ensures.0 ∙ e)))

pub defines-requires : goal.defines-requires
defines-requires c = (ranked-kept _ _ (sym c.read_ranked.ensures ∙ c.in_ok-said.was)).0

pub returns-in_err-check : goal.returns-in_err-check
returns-in_err-check c =
    let r = ranked-kept _ _ (sym c.read_ranked.ensures ∙ c.in_ok-said.was) in
    let k = set-refused _ _ (sym c.check.ensures ∙ c.in_err-check.was) in
    set-no _ _ (passed-on _ c.from_residual-in_err-check.ensures.1) k.1
    (c.loop-i.invariant.0
    ∙ ranked-next _ _ 3 c.loop-i.i (omega (arith, c.loop-i-test.true, c.count-n.ensures.0, c.args.self.within.2)) (sym (rank-at _ _ c.member_at-member.ensures.0) ∙ r.1) refl
    ∙ k.0)

pub returns-then-defines : goal.returns-then-defines
returns-then-defines c =
    let r = ranked-kept _ _ (sym c.read_ranked.ensures ∙ c.in_ok-said.was) in
    let k = set-kept _ _ (sym c.check.ensures ∙ c.in_ok-check.was) in
    let d = defines-at _ _ _ c.defines.ensures c.member_at-member.ensures.0 in
    set-yes _ _
    (c.loop-i.invariant.0
    ∙ ranked-next _ _ 3 c.loop-i.i (omega (arith, c.loop-i-test.true, c.count-n.ensures.0, c.args.self.within.2)) (sym (rank-at _ _ c.member_at-member.ensures.0) ∙ r.1) refl
    ∙ k.0)
    (sym (ap place_of (c.loop-i.invariant.1 ∙ definer-here _ _ c.loop-i.i _ c.loop-i-test.true (sym d ∙ c.if-defines.true))))

pub loop-i-preserved : goal.loop-i-preserved
loop-i-preserved c =
    let r = ranked-kept _ _ (sym c.read_ranked.ensures ∙ c.in_ok-said.was) in
    let d = defines-at _ _ _ c.defines.ensures c.member_at-member.ensures.0 in (
      c.loop-i.invariant.0
          ∙ ranked-next _ _ 3 c.loop-i.i (omega (arith, c.loop-i-test.true, c.count-n.ensures.0, c.args.self.within.2)) (sym (rank-at _ _ c.member_at-member.ensures.0) ∙ r.1) refl,
      c.loop-i.invariant.1 ∙ definer-later _ _ c.loop-i.i _ c.loop-i-test.true (sym d ∙ c.if-defines.false),
    )

pub returns-in_err-check-2 : goal.returns-in_err-check-2
returns-in_err-check-2 c =
    let last : c.loop-i.i ≡ c.args.self.to = omega (arith, c.loop-i-test.false, c.loop-i.auto.i-end, c.args.self.within.1) in
    let k = set-refused _ _ (sym c.check-2.ensures ∙ c.in_err-check-2.was) in
    set-no _ _ (passed-on _ c.from_residual-in_err-check-2.ensures.1) k.1 (c.loop-i.invariant.0 ∙ ap (λ i. ranked_from c.args.self.set.bytes.now 3 i (c.count-n.result - i)) last ∙ k.0)

pub returns : goal.returns
returns c =
    let last : c.loop-i.i ≡ c.args.self.to = omega (arith, c.loop-i-test.false, c.loop-i.auto.i-end, c.args.self.within.1) in
    let k = set-kept _ _ (sym c.check-2.ensures ∙ c.in_ok-check-2.was) in
    set-yes _ _ (c.loop-i.invariant.0 ∙ ap (λ i. ranked_from c.args.self.set.bytes.now 3 i (c.count-n.result - i)) last ∙ k.0)
    (sym (ap place_of (c.loop-i.invariant.1 ∙ definer-end _ _ c.loop-i.i _ c.loop-i-test.false)))
