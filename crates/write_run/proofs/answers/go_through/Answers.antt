use native.Mathlib.Omega.{arith}
use Rattle.write_run.proofs.Places.{case-first, case-next, all-none, all-more}
use Rattle.write_run.proofs.answers.go_through.Goals as goal

pub loop-at-init : goal.loop-at-init
loop-at-init c = (omega arith, omega arith, omega arith, omega arith, case-first _, λ z. all-none _)

pub loop-at-preserved : goal.loop-at-preserved
loop-at-preserved c =
    let inv = c.loop-at.invariant in (
      omega arith,
      omega arith,
      omega arith,
      omega arith,
      case-next _ _ _ _ inv.4 c.next-at.ensures.0,
      all-more _ _ _ _ _ inv.4 inv.5 c.differs-differ.ensures.1,
    )

pub returns : goal.returns
returns c = (omega arith, omega (arith, c.loop-at.invariant.4), c.loop-at.invariant.5)
