-- What a short import answers, by its type.
use Prim.Native.Nat.{ℕ, ◌+◌, ◌≤◌, ◌<◌}
use mathlib.Core.Path.{◌≡◌, sym, ap, ap₂, ◌∙◌, subst}
use mathlib.Core.Logic.{◌⊎◌, inl, inr}
use native.Mathlib.Omega.{arith}
use lib.ListN.{length}
use borrow.Author.Tests.{eq-eqb, ne_eqb}
use Rattle.wire.specs.Bytes.{Bytes}
use Rattle.format.specs.Names.{apply, dropped}
use Rattle.format.specs.Reader.{span}
use Rattle.format.specs.declared.Span.{Span}
use Rattle.format.specs.declared.Looked.TheVariants.{Ordinal, Name}
use Rattle.std.specs.Prelude.{Result, Ok, Err}
use Rattle.std.specs.Result.{result_unwrap_or}
use Rattle.coff.specs.Import.{type_number, TypeOf}
use Rattle.coff.specs.declared.import.UnknownNumber.{UnknownNumber}
use Rattle.coff.specs.declared.import.ImportNameType.{ImportNameType}
use Rattle.coff.specs.declared.import.ImportNameType.TheVariants as T
use Rattle.names.specs.Types.{Applied}
use Rattle.lookup.specs.Numbered.{entry_by}

-- ---- a type applied

-- the type that a number is taken for: Name, where no type has it
pub record Typed (n : ℕ) (t : ImportNameType) : Type 0 where
  pub taken : (type_number t ≡ n) ⊎ ((t ≡ T.Name) × (4 < n))

pub typed : {t : ImportNameType} (n : ℕ) (r : Result ImportNameType UnknownNumber) → TypeOf n r → t ≡ result_unwrap_or r T.Name → Typed n t
typed n (Ok q) h e = record { taken = inl (ap type_number e ∙ h) }
typed n (Err q) h e = record { taken = inr (e, h.1) }

pub named-number : {t : ImportNameType} → (t ≡ T.Name) ⊎ ((t ≡ T.NameNoprefix) ⊎ (t ≡ T.NameUndecorate)) → (1 ≤ type_number t) × (type_number t ≤ 3)
named-number (inl e) = (omega (arith, ap type_number e), omega (arith, ap type_number e))
named-number (inr (inl e)) = (omega (arith, ap type_number e), omega (arith, ap type_number e))
named-number (inr (inr e)) = (omega (arith, ap type_number e), omega (arith, ap type_number e))

-- and its part of a name
applied-plain : {s : Bytes} {r : Span} (t : ℕ) → 4 < t → Applied 1 s r → Applied t s r
unfolding apply dropped
applied-plain {s} t h a =
    let two : t ≡ 2 → ⊥ = λ e. omega arith in
    let three : t ≡ 3 → ⊥ = λ e. omega arith in
    let d : dropped t s ≡ 0 = rw (ne_eqb t 2 two, ne_eqb t 3 three) in
    let q : apply t s ≡ s = rw (ne_eqb t 2 two, ne_eqb t 3 three) in
    record {
      start = a.start ∙ sym d;
      size = a.size ∙ sym (ap length q);
      bytes = a.bytes ∙ sym q;
      within = a.within;
    }

applied-as : {s : Bytes} {r : Span} {n : ℕ} {t : ImportNameType} → Typed n t → Applied (type_number t) s r → Applied n s r
applied-as {s} {r} {n} {t} h a = pick h.taken
  where
    pick : (type_number t ≡ n) ⊎ ((t ≡ T.Name) × (4 < n)) → Applied n s r
    pick (inl e) = subst (λ (k : ℕ). Applied k s r) e a
    pick (inr e) = applied-plain n e.1 (subst (λ (t : ImportNameType). Applied (type_number t) s r) e.0 a)

-- ---- the answer

module _ (at o start : ℕ) (s : Bytes) (x : Span) {n : ℕ} {t : ImportNameType} (h : Typed n t) where
  number : (k : ℕ) → type_number t ≡ k → (k ≡ 1 → ⊥) → n ≡ k
  number k e f = pick h.taken
    where
      pick : (type_number t ≡ n) ⊎ ((t ≡ T.Name) × (4 < n)) → n ≡ k
      pick (inl g) = sym g ∙ e
      pick (inr g) = absurd (f (sym e ∙ ap type_number g.0))

  pub entry-ordinal : t ≡ T.Ordinal → Ordinal o ≡ entry_by at o n start s x
  unfolding entry_by
  entry-ordinal e =
      let z : n ≡ 0 = number 0 (ap type_number e) (λ f. omega arith) in
      rw (eq-eqb n 0 z)

  pub entry-exported : t ≡ T.NameExportas → Name (span (at + x.start) x.length) ≡ entry_by at o n start s x
  unfolding entry_by
  entry-exported e =
      let z : n ≡ 4 = number 4 (ap type_number e) (λ f. omega arith) in
      let m : n ≡ 0 → ⊥ = λ f. omega arith in
      rw (ne_eqb n 0 m, eq-eqb n 4 z)

  pub entry-named : {name : Bytes} {r : Span} → 1 ≤ type_number t → type_number t ≤ 3 → name ≡ s → Applied (type_number t) name r
      → Name (span (at + (start + r.start)) r.length) ≡ entry_by at o n start s x
  unfolding entry_by
  entry-named {name} {r} low high e applied =
      let a = applied-as h applied in
      let k = other h.taken in
      ap₂ (λ (d l : ℕ). Name (span (at + (start + d)) l)) (a.start ∙ ap (dropped n) e) (a.size ∙ ap (λ (s : Bytes). length (apply n s)) e)
      ∙ rw (ne_eqb n 0 k.0, ne_eqb n 4 k.1)
    where
      other : (type_number t ≡ n) ⊎ ((t ≡ T.Name) × (4 < n)) → (n ≡ 0 → ⊥) × (n ≡ 4 → ⊥)
      other (inl g) = (λ f. omega arith, λ f. omega arith)
      other (inr g) = (λ f. omega (arith, g.1), λ f. omega (arith, g.1))
