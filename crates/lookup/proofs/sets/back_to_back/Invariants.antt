-- The members from the i-th on stand back to back from `end`.
use Prim.Native.Nat.{◌-◌}
use mathlib.Core.Path.{◌≡◌}
use Rattle.format.specs.Lookup.{back_to_back}
use Rattle.lookup.proofs.sets.back_to_back.Given as goal

abbrev pub invariant-loop-i : goal.invariant-loop-i
invariant-loop-i l = back_to_back l.set 0 l.at l.count ≡ back_to_back l.set l.i l.end (l.count - l.i)
