-- Laws of the name types: what each drops, what it leaves, and how an export's is chosen.
use Rattle.std.specs.Prelude.{if◌then◌else◌}
use Prim.Native.Nat.{ℕ, ◌-◌, ◌≤◌}
use mathlib.Core.Path.{◌≡◌, refl, sym, ap, ◌∙◌}
use mathlib.Core.Bool.{Bool, ◌&&◌, not, true, false}
use mathlib.Core.Logic.{◌⊎◌, ⊎_elim}
use native.Mathlib.Omega.{arith}
use lib.ListN.{length, take, drop, length-drop}
use lib.Dec.{eqb}
use Rattle.std.proofs.lemmas.List.{take_rest}
use Rattle.coff.specs.declared.import.ImportNameType.{ImportNameType}
use Rattle.coff.specs.declared.import.ImportNameType.TheVariants.{Ordinal, Name, NameNoprefix, NameUndecorate, NameExportas}
use Rattle.coff.specs.Import.{type_number}
use Rattle.wire.specs.Bytes.{Bytes, same, starts, holds, before, part}
use Rattle.wire.proofs.Bytes.{part-whole}
use Rattle.wire.proofs.Parts.{part-last, take-before, length-before}
use Rattle.format.specs.Machines.{i386}
use Rattle.format.specs.Names.{at_sign, underscore, prefixed, noprefix, undecorate, apply, dropped, plain_type}
use Rattle.names.specs.Types.{Applied}

-- ---- plain_type

-- by its parts: decorated, compared, and what is left
pub plain-decorated : (machine : ℕ) (mingw : Bool) (base name : Bytes) → (starts underscore name && holds at_sign name && not mingw) ≡ true → 1 ≡ plain_type machine mingw base name
unfolding plain_type
plain-decorated machine mingw base name e = rw e

module _ (machine : ℕ) (mingw : Bool) (base name : Bytes) (e : (starts underscore name && holds at_sign name && not mingw) ≡ false) where
  pub plain-other : same base name ≡ false → 3 ≡ plain_type machine mingw base name
  unfolding plain_type
  plain-other f = rw (e, f)

  pub plain-bare : {t : ℕ} → same base name ≡ true → t ≡ (if eqb machine i386 && starts underscore base then 2 else 1) → t ≡ plain_type machine mingw base name
  unfolding plain_type
  plain-bare f g = rw (e, f) g

-- ---- Applied

module _ {t : ImportNameType} (s : Bytes) (n : ℕ) (e : n ≡ prefixed s) (h : n ≤ length s) where
  pub applied-noprefix : t ≡ NameNoprefix → Applied (type_number t) s (record { start = n; length = length s - n })
  unfolding apply dropped noprefix
  applied-noprefix q =
      rw q
      (record {
        start = e;
        size = sym (ap (λ (k : ℕ). length (drop k s)) (sym e) ∙ length-drop n s);
        bytes = part-last s n (length s - n) (omega arith) ∙ ap (λ (k : ℕ). drop k s) e;
        within = omega arith;
      })

  pub applied-undecorate : {k : ℕ} → t ≡ NameUndecorate → k ≡ length (before at_sign (take (length s - n) (drop n s)))
      → Applied (type_number t) s (record { start = n; length = k })
  unfolding apply dropped undecorate noprefix part
  applied-undecorate {k} q f =
      let g : k ≡ length (before at_sign (drop n s)) = f ∙ ap (λ (l : Bytes). length (before at_sign l)) (take_rest s n) in
      rw q
      (record {
        start = e;
        size = g ∙ ap (λ (m : ℕ). length (before at_sign (drop m s))) e;
        bytes = ap (λ (m : ℕ). take m (drop n s)) g ∙ take-before at_sign (drop n s) ∙ ap (λ (m : ℕ). before at_sign (drop m s)) e;
        within = omega (arith, g, length-before at_sign (drop n s), length-drop n s);
      })

-- the types that leave a name as it is, as a `match` tells them: by the tags 0, 1 and 4
pub applied-left : (t : ImportNameType) (s : Bytes) → (t ≡ Ordinal) ⊎ ((t ≡ Name) ⊎ (t ≡ NameExportas))
    → Applied (type_number t) s (record { start = 0; length = length s })
unfolding apply dropped
applied-left Ordinal s k = record { start = refl; size = refl; bytes = part-whole s; within = omega arith }
applied-left Name s k = record { start = refl; size = refl; bytes = part-whole s; within = omega arith }
applied-left NameNoprefix s k = absurd (⊎_elim (λ e. cc) (λ r. ⊎_elim (λ e. cc) (λ e. cc) r) k)
applied-left NameUndecorate s k = absurd (⊎_elim (λ e. cc) (λ r. ⊎_elim (λ e. cc) (λ e. cc) r) k)
applied-left NameExportas s k = record { start = refl; size = refl; bytes = part-whole s; within = omega arith }
