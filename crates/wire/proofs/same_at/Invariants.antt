-- `wire::same_at` meets its contract. The loop's invariant: `ok` is the answer for the first k bytes.
use Prim.Native.Nat.{◌≤◌}
use mathlib.Core.Path.{◌≡◌}
use Rattle.wire.specs.Bytes.{part, same}
use Rattle.wire.proofs.same_at.Given as goal

abbrev pub invariant-loop-k : goal.invariant-loop-k
invariant-loop-k l = (l.k ≤ l.n) × (l.ok ≡ same (part l.a l.at l.k) (part l.b l.at l.k))
