-- The answer from string f on is the whole answer.
use Prim.Native.Nat.{◌-◌}
use mathlib.Core.Path.{◌≡◌}
use Rattle.format.specs.Refusals.{earliest, field_rows, rows_from}
use Rattle.lists.proofs.check_fields.Given as goal

abbrev pub invariant-loop-f : goal.invariant-loop-f
invariant-loop-f l = earliest (rows_from (field_rows l.b l.k) 0 5) ≡ earliest (rows_from (field_rows l.b l.k) l.f (5 - l.f))
