-- The records before k were entered.
use Rattle.std.proofs.Common.{◌≡◌, ◌-◌, length}
use Rattle.plans.specs.Keys.{key_at}
use Rattle.keys.specs.Slots.{slot_at, Entered}
use Rattle.keys.proofs.Run.insert_all.Given as goal

abbrev pub invariant-loop-k : goal.invariant-loop-k
invariant-loop-k l = (length l.slots ≡ length l.initial.slots) × Entered (key_at l.self.machine l.self.mingw l.self.list.now) l.self.from (l.k - l.self.from) (slot_at l.slots)
