-- `write_run::answers::differs` meets its contract.
use native.Mathlib.Omega.{arith}
use Rattle.write_run.proofs.answers.differs.Goals as goal

pub returns-then-agrees : goal.returns-then-agrees
returns-then-agrees c = (omega arith, λ z. c.agrees.ensures c.if-agrees.true)

pub returns : goal.returns
returns c = (omega arith, λ z. absurd (omega (arith, z)))
