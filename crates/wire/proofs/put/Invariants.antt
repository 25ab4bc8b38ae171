-- `wire::put` meets its contract. The loops' invariants: the first bytes of `src` were written.
use Prim.Native.Nat.{◌+◌}
use lib.ListN.{take}
use Rattle.wire.specs.Writes.{Wrote}
use Rattle.wire.proofs.put.Given as goal

abbrev pub invariant-loop-i : goal.invariant-loop-i
invariant-loop-i l = Wrote l.initial.out l.at (take l.i l.src) l.out (l.at + l.i)

abbrev pub invariant-loop-x : goal.invariant-loop-x
invariant-loop-x l = Wrote l.initial.out l.at (take l.x-index l.src) l.out l.next
