-- Fields that a caller lends: values put into the first of them, and what an answer's values are.
use Rattle.std.specs.Prelude.{if◌then◌else◌, Result, Ok, Err}
use Prim.Native.Nat.{ℕ, ◌+◌, ◌≤◌, ◌<◌}
use mathlib.Core.Path.{◌≡◌, refl, subst}
use mathlib.Core.Bool.{Bool, true, false, not}
use mathlib.Core.Option.{Option, none, some}
use mathlib.Core.List.{List, [], ◌∷◌, ◌++◌}
use native.Mathlib.Omega.{arith}
use lib.ListN.{length, drop}
use lib.Dec.{eqb, leb, ltb}
use borrow.Author.Tests.{lt-ltb, le-ltb}
use Rattle.wire.specs.Bytes.{Bytes}
use Rattle.wire.proofs.Bytes.{and-first, and-each}
use Rattle.format.specs.Machines.{known, wide, arm64x}
use Rattle.format.specs.Layouts as L
use Rattle.format.specs.Layouts.{Member, descriptor, null_descriptor, null_thunk, weak, import_header_size, descriptor_name, null_name, slot_size}
use Rattle.format.specs.Reader.{between, admits_dll, admits_stem, admits_export, ordinary, admits, read, span, absent, stem_span, fields, fields_or_refused, read_fields}
use Rattle.format.specs.Answers.{layout_number, read_values, bit, ends}
use Rattle.format.specs.declared.Reason.TheVariants.{NoRoom}
use Rattle.format.specs.declared.Refusal.{Refusal}
use Rattle.crepedum.specs.Words.{reason_word}
use Rattle.format.specs.declared.Span.{Span}
use Rattle.format.specs.declared.Read.{Read}
use Rattle.format.specs.declared.Read.TheVariants.{Descriptor, NullDescriptor, NullThunk, ShortImport, WeakExternal}
use Rattle.laws.proofs.ReadBack.{between-true, export-true, read-sound}
use Rattle.laws.proofs.Totals.{stem-short}
use Rattle.crepedum.specs.Reading.{field_count, read_word, filled, read_answer, fields_after, Short, Shorts}

-- ---- the values of each answer

module _ (r : Read) (l l' : List ℕ) where
  pub filled-descriptor : {m : ℕ} {c : Bool} {dll s : Span} → r ≡ Descriptor m c dll s
      → l' ≡ (m ∷ 0 ∷ 0 ∷ 0 ∷ bit c ∷ (ends dll ++ ends s ++ ends absent)) ++ drop field_count l → (1 ≡ layout_number r) × (l' ≡ read_values r ++ drop (length (read_values r)) l)
  unfolding layout_number read_values
  filled-descriptor e f = rw e (refl, f)

  pub filled-null : {m : ℕ} {c : Bool} {s : Span} → r ≡ NullDescriptor m c s
      → l' ≡ (m ∷ 0 ∷ 0 ∷ 0 ∷ bit c ∷ (ends s ++ ends absent ++ ends absent)) ++ drop field_count l → (2 ≡ layout_number r) × (l' ≡ read_values r ++ drop (length (read_values r)) l)
  unfolding layout_number read_values
  filled-null e f = rw e (refl, f)

  pub filled-thunk : {m : ℕ} {s : Span} → r ≡ NullThunk m s
      → l' ≡ (m ∷ 0 ∷ 0 ∷ 0 ∷ 0 ∷ (ends s ++ ends absent ++ ends absent)) ++ drop field_count l → (3 ≡ layout_number r) × (l' ≡ read_values r ++ drop (length (read_values r)) l)
  unfolding layout_number read_values
  filled-thunk e f = rw e (refl, f)

  pub filled-short : {m o t k : ℕ} {s dll x : Span} → r ≡ ShortImport m o t k s dll x
      → l' ≡ (m ∷ o ∷ t ∷ k ∷ 0 ∷ (ends s ++ ends dll ++ ends x)) ++ drop field_count l → (4 ≡ layout_number r) × (l' ≡ read_values r ++ drop (length (read_values r)) l)
  unfolding layout_number read_values
  filled-short e f = rw e (refl, f)

  pub filled-weak : {m : ℕ} {target alias : Span} → r ≡ WeakExternal m target alias
      → l' ≡ (m ∷ 0 ∷ 0 ∷ 0 ∷ 0 ∷ (ends target ++ ends alias ++ ends absent)) ++ drop field_count l → (5 ≡ layout_number r) × (l' ≡ read_values r ++ drop (length (read_values r)) l)
  unfolding layout_number read_values
  filled-weak e f = rw e (refl, f)

-- too few fields, and enough
pub few : (r : Result Read Refusal) (l : List ℕ) → length l < field_count → (reason_word NoRoom ≡ read_answer r l) × (l ≡ fields_after r l)
unfolding read_answer fields_after
few r l h = rw (lt-ltb (length l) field_count h) (refl, refl)

module _ (r : Result Read Refusal) (l : List ℕ) (h : field_count ≤ length l) where
  pub read-enough : {w : ℕ} {l' : List ℕ} {f : Read} → r ≡ Ok f → (w ≡ layout_number f) × (l' ≡ read_values f ++ drop (length (read_values f)) l)
      → (w ≡ read_answer r l) × (l' ≡ fields_after r l)
  unfolding read_answer fields_after read_word filled
  read-enough e (f, g) = rw (le-ltb (length l) field_count h, e) (f, g)

  pub read-refused : {w : ℕ} {q : Refusal} → r ≡ Err q → w ≡ reason_word q.reason → (w ≡ read_answer r l) × (l ≡ fields_after r l)
  unfolding read_answer fields_after read_word filled
  read-refused e f = rw (le-ltb (length l) field_count h, e) (f, refl)

-- ---- every value is a field of 32 bits

short : (a n : ℕ) → a ≤ 65536 → n ≤ 65536 → Short (span a n)
short a n h k = record { start = omega arith; length = omega arith }

pub short-absent : Short absent
short-absent = short 0 0 (omega arith) (omega arith)

-- of the names of the layout that an answer is
pub shorts-as : (q r : Read) → q ≡ r → Shorts q → Shorts r
shorts-as q r e s = subst Shorts e s

slot-small : (m : ℕ) → slot_size m ≤ 8
unfolding slot_size
slot-small m = pick (wide m)
  where
    pick : (w : Bool) → (if w then 8 else 4) ≤ 8
    pick true = omega arith
    pick false = omega arith

dll-small : (dll : Bytes) → admits_dll dll ≡ true → length dll ≤ 255
unfolding admits_dll
dll-small dll e = (between-true 1 255 dll (and-first _ _ e)).1

shorts-fields : (m : Member) → admits m ≡ true → Shorts (fields m)
unfolding admits admits_stem fields stem_span descriptor_name null_name
shorts-fields (descriptor m dll compat) e =
    let (machine, name) = and-each (ordinary m) (admits_dll dll ∷ []) e in
    let h = dll-small dll name in
    (short _ _ (omega arith) (omega arith), short _ _ (omega arith) (omega (arith, stem-short dll)))
shorts-fields (null_descriptor m none) e = short-absent
shorts-fields (null_descriptor m (some s)) e =
    let (machine, name) = and-each (ordinary m) (between 1 255 s ∷ []) e in
    short _ _ (omega arith) (omega (arith, (between-true 1 255 s name).1))
shorts-fields (null_thunk m s) e =
    let (machine, name) = and-each (ordinary m) (between 1 255 s ∷ []) e in
    short _ _ (omega (arith, slot-small m)) (omega (arith, (between-true 1 255 s name).1))
shorts-fields (L.short m o k t s dll x) e =
    let tests : List Bool = not (eqb m arm64x) ∷ ltb o 65536 ∷ leb k 2 ∷ leb t 4 ∷ between 1 8190 s ∷ admits_dll dll ∷ admits_export t x ∷ [] in
    let (machine, (not_x, (ordinal, (kinds, (types, (symbol, (name, exported))))))) = and-each (known m) tests e in
    let h = (between-true 1 8190 s symbol).1 in
    let d = dll-small dll name in
    (short _ _ (omega arith) (omega arith), short _ _ (omega arith) (omega arith), pick (eqb t 4) h d (export-true t x exported).0)
  where
    pick : (q : Bool) → length s ≤ 8190 → length dll ≤ 255 → length x ≤ (if q then 8190 else 0)
        → Short (if q then span (import_header_size + (length s + 1) + (length dll + 1)) (length x) else absent)
    pick true h d n = short _ _ (omega arith) (omega arith)
    pick false h d n = short-absent
shorts-fields (weak m target alias) e =
    let (machine, (first, second)) = and-each (ordinary m) (between 1 8195 target ∷ between 1 8195 alias ∷ []) e in
    let h = (between-true 1 8195 target first).1 in
    (short _ _ (omega arith) (omega arith), short _ _ (omega arith) (omega (arith, (between-true 1 8195 alias second).1)))

pub shorts : {f : Read} (b : Bytes) → read_fields b ≡ Ok f → Shorts f
unfolding read_fields fields_or_refused
shorts {f} b q = pick (read b) refl q
  where
    pick : (o : Option Member) → read b ≡ o → fields_or_refused o ≡ Ok f → Shorts f
    pick none e q = let z : ◌≡◌ {A = ℕ} 0 1 = cc in absurd (omega arith)
    pick (some m) e q = let is : fields m ≡ f = cc in subst Shorts is (shorts-fields m (read-sound b m e).admitted)
