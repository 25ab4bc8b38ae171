-- The answer from record k on is the whole answer.
use Prim.Native.Nat.{◌-◌}
use mathlib.Core.Path.{◌≡◌}
use Rattle.format.specs.Refusals.{earliest, record_rows, rows_from}
use Rattle.lists.proofs.check_records.Given as goal

abbrev pub invariant-loop-k : goal.invariant-loop-k
invariant-loop-k l = earliest (rows_from (record_rows l.b) 0 l.count) ≡ earliest (rows_from (record_rows l.b) l.k (l.count - l.k))
