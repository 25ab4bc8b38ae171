-- Members by the flag or the type that decides them.
use Rattle.std.specs.Prelude.{if◌then◌else◌}
use Prim.Native.Nat.{ℕ, ◌+◌, ◌*◌, ◌≤◌}
use mathlib.Core.Path.{◌≡◌, refl, sym, ap, ◌∙◌}
use mathlib.Core.Bool.{Bool, true, false, false≢true}
use mathlib.Core.List.{[], ◌∷◌, ◌++◌}
use native.Mathlib.Omega.{arith}
use borrow.Author.Tests.{eq-eqb, ne_eqb}
use lib.Dec.{eqb}
use Rattle.wire.specs.Bytes.{Bytes, ascii}
use Rattle.format.specs.Layouts.{short, short_bytes, short_strings, weak_bytes, encode}
use Rattle.coff.specs.Import.{kind_number, type_number}
use Rattle.coff.specs.declared.import.ImportType.{ImportType}
use Rattle.coff.specs.declared.import.ImportType.TheVariants.{Code, Data, Const}
use Rattle.coff.specs.declared.import.ImportNameType.{ImportNameType}
use Rattle.coff.specs.declared.import.ImportNameType.TheVariants.{Ordinal, Name, NameNoprefix, NameUndecorate, NameExportas}
use Rattle.members.specs.Members.{short_of, weak_of}

-- ---- short imports

pub type-small : (t : ImportNameType) → type_number t ≤ 4
type-small Ordinal = omega arith
type-small Name = omega arith
type-small NameNoprefix = omega arith
type-small NameUndecorate = omega arith
type-small NameExportas = omega arith

pub kind-small : (k : ImportType) → kind_number k ≤ 2
kind-small Code = omega arith
kind-small Data = omega arith
kind-small Const = omega arith

-- by the test for type 4
short-by : (m o k t : ℕ) (s dll x : Bytes) (q : Bool) → eqb t 4 ≡ q
    → short_of m o (t * 4 + k) (if q then s ∷ dll ∷ x ∷ [] else s ∷ dll ∷ []) ≡ encode (short m o k t s dll x)
unfolding encode short_bytes short_strings
short-by m o k t s dll x q e = ap (λ (q : Bool). short_of m o (t * 4 + k) (if q then s ∷ dll ∷ x ∷ [] else s ∷ dll ∷ [])) (sym e)

-- from the numbers that the code has
pub short-exported : (m o k t n j : ℕ) (s dll x : Bytes) → n ≡ t → j ≡ k → n ≡ 4
    → short_of m o (n * 4 + j) (s ∷ dll ∷ x ∷ []) ≡ encode (short m o k t s dll x)
short-exported m o k t n j s dll x a b e =
    short-by m o j n s dll x true (eq-eqb _ _ e)
    ∙ ap (λ (n : ℕ). encode (short m o j n s dll x)) a
    ∙ ap (λ (j : ℕ). encode (short m o j t s dll x)) b

pub short-plain : (m o k t n j : ℕ) (s dll x : Bytes) → n ≡ t → j ≡ k → (n ≡ 4 → ⊥)
    → short_of m o (n * 4 + j) (s ∷ dll ∷ []) ≡ encode (short m o k t s dll x)
short-plain m o k t n j s dll x a b e =
    short-by m o j n s dll x false (ne_eqb n 4 e)
    ∙ ap (λ (n : ℕ). encode (short m o j n s dll x)) a
    ∙ ap (λ (j : ℕ). encode (short m o j t s dll x)) b

-- ---- weak externals

pub weak-prefixed : (m : ℕ) (prefixed : Bool) (s w : Bytes) → prefixed ≡ true
    → weak_bytes m (ascii "__imp_" ++ s) (ascii "__imp_" ++ w) ≡ encode (weak_of m prefixed s w)
unfolding encode
weak-prefixed m true s w e = refl
weak-prefixed m false s w e = absurd (false≢true e)

pub weak-plain : (m : ℕ) (prefixed : Bool) (s w : Bytes) → prefixed ≡ false → weak_bytes m s w ≡ encode (weak_of m prefixed s w)
unfolding encode
weak-plain m true s w e = absurd (false≢true (sym e))
weak-plain m false s w e = refl
