-- `library::set::total_of` meets its contract.
use Prim.Native.Nat.{ℕ, ◌+◌, ◌-◌}
use mathlib.Core.Path.{ap₂}
use Rattle.library.specs.Sets.{farthest}
use Rattle.library.proofs.set.total_of.Goals as goal

pub returns : goal.returns
returns c = ap₂ (λ (e a : ℕ). e + (a - farthest)) c.entry_of.ensures c.at_of.ensures
