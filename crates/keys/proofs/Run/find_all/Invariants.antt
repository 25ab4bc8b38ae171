-- The targets before k are stored, and those before the first stay.
use Rattle.std.proofs.Common.{◌≡◌, ℕ, ◌<◌, length, get_or}
use Rattle.keys.proofs.Targets.{Stored}
use Rattle.keys.proofs.Run.find_all.Given as goal

abbrev pub invariant-loop-k : goal.invariant-loop-k
invariant-loop-k l = (length l.targets ≡ length l.initial.targets) × Stored l.self.machine l.self.mingw l.self.list.now l.self.from l.self.to l.k l.targets × ((j : ℕ) → j < l.self.from → get_or l.targets j 0 ≡ get_or l.initial.targets j 0)
