-- The short imports and aliases of a record, by what the functions are told.
use Rattle.std.specs.Prelude.{if◌then◌else◌, None, Some}
use Rattle.std.specs.Prelude as std
use Prim.Native.Nat.{ℕ, ◌+◌, ◌-◌, ◌≤◌}
use mathlib.Core.Path.{◌≡◌, sym, ap, ◌∙◌}
use mathlib.Core.Bool.{Bool, true, false}
use mathlib.Core.Option.{Option, none, some, get_or}
use mathlib.Core.List.{List, [], ◌∷◌, ◌++◌, append-nil}
use native.Mathlib.Omega.{arith}
use lib.ListN.{length, take, drop}
use borrow.Author.Tests.{eq-eqb, ne_eqb}
use Rattle.wire.specs.Bytes.{Bytes, part}
use Rattle.wire.proofs.Parts.{part-last}
use Rattle.format.specs.Names.{hash, demangle}
use Rattle.format.specs.Exports.{Export, field_at, bytes_at, export_at}
use Rattle.format.specs.Plan.{kind}
use Rattle.format.specs.Layouts.{Member, short}
use Rattle.format.specs.Library.{alias_members}
use Rattle.format.proofs.Strings.{string-get_or}
use Rattle.names.specs.Mangler.{Demangles, demangled_of}
use Rattle.names.specs.declared.mangler.Demangled.{Demangled}
use Rattle.names.specs.declared.mangler.Demangled.TheVariants.{Dropped, Cut}
use Rattle.plans.specs.Shape.{source_of}
use Rattle.plans.specs.declared.Source.{Source}
use Rattle.plans.specs.declared.Source.TheVariants as S
use Rattle.members.specs.Members.{weak_of}
use Rattle.walks.specs.Pen.{Room, Drew}
use Rattle.walks.specs.Walk.{import_of}
use Rattle.walks.proofs.Pens.{room-as, room-first, room-next, drew-as, drew-more}

-- ---- a short import, by its ordinal, kind and export string

pub import-by : (machine t : ℕ) (e : Export) (s dll x : Bytes) {o k : ℕ} → o ≡ e.ordinal → k ≡ kind e → short machine o k t s dll x ∷ [] ≡ import_of machine e t s dll x ∷ []
import-by machine t e s dll x p q = rw (p, q)

pub exporting : (machine t : ℕ) (e : Export) (s dll : Bytes) {x y : Bytes} → x ≡ y → import_of machine e t s dll x ∷ [] ≡ import_of machine e t s dll y ∷ []
exporting machine t e s dll p = rw p

pub naming : (machine t : ℕ) (e : Export) (dll x : Bytes) {s u : Bytes} → s ≡ u → import_of machine e t s dll x ∷ [] ≡ import_of machine e t u dll x ∷ []
naming machine t e dll x p = rw p

-- ---- the final name

pub final-plain : (p : Bytes) (hashed : Bool) → hashed ≡ false → p ≡ (if hashed then hash ∷ p else p)
final-plain p hashed e = rw e

pub final-hashed : (p : Bytes) (hashed : Bool) {s : Bytes} → hashed ≡ true → s ≡ hash ∷ p → s ≡ (if hashed then hash ∷ p else p)
final-hashed p hashed e f = rw e f

-- ---- the export string in two pieces

module _ (s : Bytes) (r : std.Option Demangled) (d : Demangles s r) where
  pub dropped-some : r ≡ Some Dropped → 1 ≤ length s
  dropped-some e = rw e at d.within

  pub dropped-is : r ≡ Some Dropped → part s 1 (length s - 1) ++ [] ≡ get_or (demangle s) []
  unfolding demangled_of
  dropped-is e =
      let some_is : some (drop 1 s) ≡ demangle s = rw e at d.name in
      append-nil _ ∙ part-last s 1 (length s - 1) (omega arith) ∙ ap (λ (o : Option Bytes). get_or o []) some_is

  module _ (at : ℕ) (e : r ≡ Some (Cut at)) where
    pub cut-some : at + 4 ≤ length s
    cut-some = rw e at d.within

    pub cut-is : part s 0 at ++ part s (at + 3) (length s - (at + 3)) ≡ get_or (demangle s) []
    unfolding demangled_of part
    cut-is =
        let some_is : some (take at s ++ drop (at + 3) s) ≡ demangle s = rw e at d.name in
        ap (λ (t : Bytes). take at s ++ t) (part-last s (at + 3) (length s - (at + 3)) (omega arith)) ∙ ap (λ (o : Option Bytes). get_or o []) some_is

  pub fails-is : r ≡ None → [] ≡ get_or (demangle s) []
  unfolding demangled_of
  fails-is e =
      let none-is : none ≡ demangle s = rw e at d.name in
      ap (λ (o : Option Bytes). get_or o []) none-is

-- ---- the export string by where it comes from

module _ (b : Bytes) (k : ℕ) (p : Bytes) (x : Source) where
  pub source-nothing : x ≡ S.Nothing → [] ≡ source_of (export_at b k) p x
  unfolding source_of
  source-nothing e = rw e

  pub source-as : {s : Bytes} → x ≡ S.ExportAs → s ≡ bytes_at b (field_at k 4) → s ++ [] ≡ source_of (export_at b k) p x
  unfolding source_of export_at
  source-as {s} e f = append-nil s ∙ f ∙ sym (rw e (string-get_or b (field_at k 4)))

  pub source-import : {s : Bytes} → x ≡ S.ImportName → s ≡ bytes_at b (field_at k 3) → s ++ [] ≡ source_of (export_at b k) p x
  unfolding source_of export_at
  source-import {s} e f = append-nil s ∙ f ∙ sym (rw e (string-get_or b (field_at k 3)))

  pub source-public : x ≡ S.Public → p ++ [] ≡ source_of (export_at b k) p x
  unfolding source_of
  source-public e = rw e (append-nil p)

  pub source-demangled : x ≡ S.Demangled → get_or (demangle p) [] ≡ source_of (export_at b k) p x
  unfolding source_of
  source-demangled e = rw e

-- ---- aliases

module _ (machine : ℕ) (target public : Bytes) {n k : ℕ} (e : n ≡ k) where
  abbrev plainly : List Member
  plainly = weak_of machine false target public ∷ []

  abbrev prefixed : List Member
  prefixed = weak_of machine true target public ∷ []

  module _ (z : n ≡ 0) where
    both : plainly ++ prefixed ≡ alias_members machine k target public
    unfolding alias_members
    both = rw (eq-eqb k 0 (sym e ∙ z))

    module _ {entry at : ℕ} (room : Room entry at (alias_members machine k target public)) where
      pub code-first : Room entry at (weak_of machine false target public ∷ [])
      code-first = room-first plainly prefixed (room-as (sym both) room)

      module _ {l l₁ : Bytes} {entry₁ at₁ : ℕ} (p : Drew l entry at (weak_of machine false target public ∷ []) l₁ entry₁ at₁) where
        pub code-next : Room entry₁ at₁ (weak_of machine true target public ∷ [])
        code-next = room-next plainly prefixed (room-as (sym both) room) p

        pub code-drew : {l₂ : Bytes} {entry₂ at₂ : ℕ} → Drew l₁ entry₁ at₁ (weak_of machine true target public ∷ []) l₂ entry₂ at₂
            → Drew l entry at (alias_members machine k target public) l₂ entry₂ at₂
        code-drew q = drew-as both (drew-more code-first.apart p q)

  pub alias-other : (n ≡ 0 → ⊥) → weak_of machine true target public ∷ [] ≡ alias_members machine k target public
  unfolding alias_members
  alias-other z = rw (ne_eqb k 0 (λ p. z (e ∙ p)))
