-- No member is longer than the scratch that it is drawn into.
use Prim.Native.Nat.{ℕ, ◌≤◌}
use mathlib.Core.Bool.{Bool, true, false}
use native.Mathlib.Omega.{arith}
use lib.ListN.{length}
use Rattle.wire.specs.Bytes.{Bytes}
use Rattle.format.specs.Layouts.{descriptor, null_descriptor, null_thunk, compat_stem, encode}
use Rattle.laws.proofs.Lengths.{length-encode-descriptor, length-encode-null_descriptor-none, length-encode-null_descriptor-some, length-encode-null_thunk}
use Rattle.laws.proofs.Totals.{stem-short, slot-small}

pub bound-descriptor : (m : ℕ) (dll : Bytes) (compat : Bool) → length dll ≤ 255 → length (encode (descriptor m dll compat)) ≤ 1366
bound-descriptor m dll true h = omega (arith, length-encode-descriptor m dll true, stem-short dll)
bound-descriptor m dll false h = omega (arith, length-encode-descriptor m dll false, stem-short dll)

pub bound-null : (m : ℕ) (compat : Bool) (s : Bytes) → length s ≤ 255 → length (encode (null_descriptor m (compat_stem compat s))) ≤ 1366
unfolding compat_stem
bound-null m true s h = omega (arith, length-encode-null_descriptor-some m s)
bound-null m false s h = omega (arith, length-encode-null_descriptor-none m)

pub bound-thunk : (m : ℕ) (s : Bytes) → length s ≤ 255 → length (encode (null_thunk m s)) ≤ 1366
bound-thunk m s h = omega (arith, length-encode-null_thunk m s, slot-small m)
