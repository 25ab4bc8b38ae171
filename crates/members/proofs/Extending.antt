-- The sizes of members, each by what it is told.
use Prim.Native.Nat.{ℕ, ◌+◌, ◌*◌}
use mathlib.Core.Path.{◌≡◌, sym, ◌∙◌}
use mathlib.Core.Bool.{Bool, true, false}
use mathlib.Core.List.{◌++◌}
use native.Mathlib.Omega.{arith}
use lib.Dec.{eqb}
use lib.ListN.{length, length-append}
use borrow.Author.Tests.{eq-eqb, ne_eqb}
use Rattle.wire.specs.Bytes.{Bytes}
use Rattle.format.specs.Names.{stem}
use Rattle.format.specs.Layouts.{descriptor, null_descriptor, short, null_name, compat_stem, encode}
use Rattle.format.specs.Library.{imp}
use Rattle.laws.proofs.Lengths.{length-descriptor_name, length-thunk_name, length-descriptor_bytes, length-null_descriptor_bytes, length-encode-short, length-encode-weak}
use Rattle.members.specs.Members.{weak_of}

-- ---- with the name of a null import descriptor, of n bytes

pub descriptor-extent : (m n : ℕ) (dll s : Bytes) (compat : Bool) → s ≡ stem dll → n ≡ length (null_name (compat_stem compat s))
    → 321 + n + length dll + 2 * length s ≡ length (encode (descriptor m dll compat))
unfolding encode
descriptor-extent m n dll s compat e f =
    rw (f, e) (simp (length-descriptor_bytes, length-descriptor_name, length-thunk_name) (omega arith))

pub null-extent : (m n : ℕ) (s : Bytes) (compat : Bool) → n ≡ length (null_name (compat_stem compat s))
    → 103 + n ≡ length (encode (null_descriptor m (compat_stem compat s)))
unfolding encode
null-extent m n s compat f = rw f (simp length-null_descriptor_bytes)

-- ---- by the test for type 4

module _ (m o k t n : ℕ) (s dll h x : Bytes) (e : n ≡ t) where
  pub short-exported : n ≡ 4 → 22 + length s + length dll + length h + length x + 1 ≡ length (encode (short m o k t s dll (h ++ x)))
  short-exported q =
      let four : eqb t 4 ≡ true = eq-eqb t 4 (sym e ∙ q) in
      omega (arith, rw four at (length-encode-short m o k t s dll (h ++ x)), length-append h x)

  pub short-plain : (n ≡ 4 → ⊥) → 22 + length s + length dll ≡ length (encode (short m o k t s dll (h ++ x)))
  short-plain q =
      let other : eqb t 4 ≡ false = ne_eqb t 4 (λ p. q (e ∙ p)) in
      omega (arith, rw other at (length-encode-short m o k t s dll (h ++ x)))

-- ---- by the flag for the prefix

module _ (m : ℕ) (s w : Bytes) (prefixed : Bool) where
  pub weak-prefixed : prefixed ≡ true → 156 + length s + length w + 12 ≡ length (encode (weak_of m prefixed s w))
  weak-prefixed c = rw c (omega (arith, length-encode-weak m (imp s) (imp w)))

  pub weak-plain : prefixed ≡ false → 156 + length s + length w ≡ length (encode (weak_of m prefixed s w))
  weak-plain c = rw c (omega (arith, length-encode-weak m s w))
