-- The members from the i-th on are in order from `expected` on, where those from the first on are from the first rank on.
use Prim.Native.Nat.{◌-◌, ◌≤◌}
use mathlib.Core.Path.{◌≡◌}
use Rattle.lookup.specs.Numbered.{ranked_from}
use Rattle.lookup.proofs.sets.MemberSet.check.Given as goal

abbrev pub invariant-loop-i : goal.invariant-loop-i
invariant-loop-i l =
    (l.expected ≤ 3)
    × (ranked_from l.self.bytes.now l.first l.from (l.to - l.from) ≡ ranked_from l.self.bytes.now l.expected l.i (l.to - l.i))
