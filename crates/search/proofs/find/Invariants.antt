-- `search::find` meets its contract. The outer loop's invariant: the pattern first stands where it first stands from i on. The inner one's: what is
-- left of the part at k agrees with what is left of the pattern exactly where the wholes agree.
use Prim.Native.Nat.{◌-◌, ◌≤◌}
use mathlib.Core.Path.{◌≡◌}
use lib.ListN.{length, drop}
use Rattle.wire.specs.Bytes.{same, part}
use Rattle.format.specs.Names.{find}
use Rattle.search.proofs.Searches.{find_from}
use Rattle.search.proofs.find.Given as goal

abbrev pub invariant-loop-j : goal.invariant-loop-j
invariant-loop-j l = (l.j ≤ length l.pattern)
    × (same (part l.text l.k (length l.pattern)) l.pattern ≡ same (drop l.j (part l.text l.k (length l.pattern))) (drop l.j l.pattern))

abbrev pub decreases-loop-j : goal.decreases-loop-j
decreases-loop-j l = length l.pattern - l.j

abbrev pub invariant-search : goal.invariant-search
invariant-search l = (l.i ≤ length l.text) × (find_from l.pattern l.text l.i ≡ find l.pattern l.text)

abbrev pub decreases-search : goal.decreases-search
decreases-search l = length l.text - l.i
