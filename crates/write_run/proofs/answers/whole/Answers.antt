use mathlib.Core.Path.{sym, ap, ◌∙◌}
use native.Mathlib.Omega.{arith}
use borrow.Author.Tests.{eqb-true}
use Rattle.write_run.specs.Cases.{case_at}
use Rattle.write_run.proofs.Agreements.{differs}
use Rattle.write_run.proofs.Places.{case-first, case-next}
use Rattle.write_run.proofs.answers.whole.Goals as goal

pub loop-at-init : goal.loop-at-init
loop-at-init c = (omega arith, omega arith, case-first _)

pub returns-then-flags : goal.returns-then-flags
returns-then-flags c = differs

pub loop-at-preserved : goal.loop-at-preserved
loop-at-preserved c = (omega arith, omega arith, case-next _ _ _ _ c.loop-at.invariant.2 c.next-at.ensures.0)

pub returns-then-at-t : goal.returns-then-at-t
returns-then-at-t c = differs

pub returns : goal.returns
returns c = λ e.
    let count = eqb-true _ _ e ∙ c.wide.ensures.0 ∙ c.word.ensures in
    ap (case_at c.args.t.now) (sym count) ∙ sym c.loop-at.invariant.2 ∙ c.if-at-t.false
