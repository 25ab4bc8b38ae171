-- `write_run::answers::go_through` meets its contract. The loop: all cases passed agree, unless some differ; there are no more of
-- them than bytes.
use Prim.Native.Nat.{◌≤◌, ◌+◌, ◌-◌}
use mathlib.Core.Path.{◌≡◌}
use lib.ListN.{length}
use Rattle.write_run.specs.Cases.{case_at, AllAgree}
use Rattle.write_run.proofs.answers.go_through.Given as goal

abbrev pub invariant-loop-at : goal.invariant-loop-at
invariant-loop-at l = (l.at ≤ length l.t + 4) × (l.cases ≤ l.at) × (l.refused ≤ l.cases) × (l.differ ≤ l.cases) × (l.at ≡ case_at l.t l.cases) × (l.differ ≡ 0 → AllAgree l.t l.cases)

abbrev pub decreases-loop-at : goal.decreases-loop-at
decreases-loop-at l = length l.t + 1 - l.at
