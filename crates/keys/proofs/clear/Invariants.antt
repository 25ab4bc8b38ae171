-- The slots before i are free.
use Rattle.std.proofs.Common.{◌≡◌, ℕ, ◌<◌, length}
use Rattle.keys.specs.Slots.{slot_at}
use Rattle.keys.proofs.clear.Given as goal

abbrev pub invariant-loop-i : goal.invariant-loop-i
invariant-loop-i l = (length l.slots ≡ length l.initial.slots) × ((r : ℕ) → r < l.i → (slot_at l.slots r).state ≡ 0)
