-- The answer from record k on is the whole answer.
use Prim.Native.Nat.{◌-◌}
use mathlib.Core.Path.{◌≡◌}
use Rattle.format.specs.Refusals.{earliest, name_rows, rows_from}
use Rattle.plans.proofs.check.check_names.Given as goal

abbrev pub invariant-loop-k : goal.invariant-loop-k
invariant-loop-k l = earliest (rows_from (name_rows l.machine l.mingw l.b) l.from (l.to - l.from)) ≡ earliest (rows_from (name_rows l.machine l.mingw l.b) l.k (l.to - l.k))
