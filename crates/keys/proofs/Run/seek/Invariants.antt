-- The search ends at none of the slots that were tried.
use Rattle.std.proofs.Common.{◌≡◌, ◌-◌}
use Rattle.wire.specs.Bytes.{first}
use Rattle.plans.specs.Keys.{key_at}
use Rattle.keys.specs.Slots.{slot_at, ends}
use Rattle.keys.proofs.Run.seek.Given as goal

abbrev pub invariant-loop-d : goal.invariant-loop-d
invariant-loop-d l =
    first (ends (key_at l.self.machine l.self.mingw l.self.list.now) (slot_at l.slots) l.key) 0 8192 ≡ first (ends (key_at l.self.machine l.self.mingw l.self.list.now) (slot_at l.slots) l.key) l.d (8192 - l.d)
