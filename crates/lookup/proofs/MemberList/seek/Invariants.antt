-- From the i-th member on the answer is what it is from the first on.
use Prim.Native.Nat.{◌-◌}
use mathlib.Core.Path.{◌≡◌}
use Rattle.format.specs.Lookup.{set_count}
use Rattle.lookup.specs.Numbered.{ranked_from, definer_from}
use Rattle.lookup.proofs.MemberList.seek.Given as goal

abbrev pub invariant-loop-i : goal.invariant-loop-i
invariant-loop-i l =
    (ranked_from l.self.set.bytes.now 3 l.self.from (set_count l.self.set.bytes.now - l.self.from) ≡ ranked_from l.self.set.bytes.now 3 l.i (l.n - l.i))
    × (definer_from l.self.set.bytes.now l.symbol l.self.from (l.self.to - l.self.from) ≡ definer_from l.self.set.bytes.now l.symbol l.i (l.self.to - l.i))
