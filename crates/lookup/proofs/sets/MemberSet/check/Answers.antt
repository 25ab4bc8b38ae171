-- `lookup::sets::MemberSet::check` meets its contract.
use mathlib.Core.Path.{refl, sym, ◌∙◌}
use Rattle.format.proofs.Rows.{passed-on}
use Rattle.lookup.proofs.Refusing.{set-no, set-yes}
use Rattle.lookup.proofs.Saying.{ranked-kept, ranked-refused, rank-at}
use Rattle.lookup.proofs.Ordering.{ranked-next, ranked-not, ranked-end}
use Rattle.lookup.proofs.sets.MemberSet.check.Goals as goal

pub returns-in_err-read_ranked : goal.returns-in_err-read_ranked
returns-in_err-read_ranked c =
    let k = ranked-refused _ _ c.loop-i.invariant.0 (sym c.read_ranked.ensures ∙ c.in_err-read_ranked.was) in
    set-no _ _ (passed-on _ c.from_residual.ensures.1) k.1
    (c.loop-i.invariant.1
    ∙ ranked-not _ _ c.loop-i.expected c.loop-i.i c.loop-i-test.true (λ e. k.0 (rank-at _ _ c.member_at.ensures.0 ∙ e)))

pub loop-i-preserved : goal.loop-i-preserved
loop-i-preserved c =
    let k = ranked-kept _ _ (sym c.read_ranked.ensures ∙ c.in_ok-read_ranked.was) in (
      c.next_rank-expected.ensures.1,
      c.loop-i.invariant.1
          ∙ ranked-next _ _ c.loop-i.expected c.loop-i.i c.loop-i-test.true (sym (rank-at _ _ c.member_at.ensures.0) ∙ k.1) c.next_rank-expected.ensures.0,
    )

pub returns : goal.returns
returns c = set-yes _ _ (c.loop-i.invariant.1 ∙ ranked-end _ _ c.loop-i.expected c.loop-i.i c.loop-i-test.false) refl
