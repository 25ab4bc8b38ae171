-- The numbers that the code works out are the layouts' own: stems, and the strings of short imports.
use Rattle.std.specs.Prelude.{if◌then◌else◌}
use Prim.Native.Nat.{ℕ, ◌+◌, ◌≤◌}
use mathlib.Core.Path.{◌≡◌, ap}
use mathlib.Core.Bool.{Bool, true, false}
use mathlib.Core.List.{[], ◌∷◌, ◌++◌}
use native.Mathlib.Omega.{arith}
use lib.Dec.{eqb}
use lib.ListN.{length, length-append}
use Rattle.wire.specs.Bytes.{Bytes}
use Rattle.format.specs.Names.{stem}
use Rattle.format.specs.Layouts.{strings, short, encode}
use Rattle.laws.proofs.Lengths.{length-strings-nil, length-strings-cons, length-encode-short}
use Rattle.laws.proofs.Totals.{stem-short}

-- a stem is no longer than its DLL name
pub stem-within : {s : Bytes} {n : ℕ} (dll : Bytes) → s ≡ stem dll → length dll ≤ n → length s ≤ n
stem-within dll e h = omega (arith, ap length e, stem-short dll)

-- ---- the short import

-- how many bytes a member has, and its strings
pub short-within : (m o k t : ℕ) (s dll x : Bytes)
    → (22 + length s + length dll ≤ length (encode (short m o k t s dll x))) × (length (encode (short m o k t s dll x)) ≤ 23 + length s + length dll + length x)
short-within m o k t s dll x = one (eqb t 4) (length-encode-short m o k t s dll x)
  where
    one : {n : ℕ} (q : Bool) → n ≡ 22 + length s + length dll + (if q then length x + 1 else 0) → (22 + length s + length dll ≤ n) × (n ≤ 23 + length s + length dll + length x)
    one true e = (omega arith, omega arith)
    one false e = (omega arith, omega arith)

pub size-short : (s dll : Bytes) → length s + 1 + length dll + 1 ≡ length (strings (s ∷ dll ∷ []))
size-short s dll = simp (length-strings-nil, length-strings-cons) (omega arith)

pub size-exported : (s dll h t : Bytes) → length s + 1 + length dll + 1 + length h + length t + 1 ≡ length (strings (s ∷ dll ∷ (h ++ t) ∷ []))
size-exported s dll h t = simp (length-append, length-strings-nil, length-strings-cons) (omega arith)
