-- `names::dll::stem` meets its contract.
use native.Mathlib.Omega.{arith}
use Rattle.names.proofs.DllNames.{stem-none, stem-first, stem-dot}
use Rattle.names.proofs.dll.stem.Goals as goal

pub returns-in-Some : goal.returns-in-Some
returns-in-Some c = stem-dot _ _ c.in-Some.ensures c.if-at-gt0.true

pub returns-in_default : goal.returns-in_default
returns-in_default c = stem-first _ c.in-Some.at c.in-Some.ensures (omega arith)

pub returns-in_default-2 : goal.returns-in_default-2
returns-in_default-2 c = stem-none _ c.in_default.ensures
