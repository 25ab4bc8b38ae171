-- `wire::index_by` meets its contract. The loop's invariant: `c` is not among the first bytes, up to the place that is looked at.
use Prim.Native.Nat.{◌+◌, ◌-◌, ◌<◌}
use mathlib.Core.Bool.{false}
use mathlib.Core.Path.{◌≡◌}
use lib.ListN.{length, take}
use Rattle.wire.specs.Bytes.{holds}
use Rattle.wire.proofs.index_by.Given as goal

abbrev pub invariant-loop-at : goal.invariant-loop-at
invariant-loop-at g l = (l.at < l.last + g.row.N) × (holds l.c (take l.at l.s) ≡ false)

abbrev pub decreases-loop-at : goal.decreases-loop-at
decreases-loop-at g l = length l.s - l.at
