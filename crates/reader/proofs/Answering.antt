-- What is answered for a member, by whether it is admitted and where looking for its bytes ends.
use Rattle.std.specs.Prelude.{if◌then◌else◌, Ok, Err}
use Prim.Native.Nat.{ℕ, ◌+◌, ◌*◌, ◌/◌, ◌%◌, ◌≤◌, ◌<◌}
use mathlib.Core.Path.{◌≡◌, refl, sym, ap, ◌∙◌}
use mathlib.Core.Bool.{Bool, true, false, ◌&&◌, not}
use mathlib.Core.Option.{none, some}
use mathlib.Core.List.{[], ◌∷◌}
use native.Mathlib.Omega.{arith}
use lib.ListN.{length}
use lib.Dec.{eqb, leb}
use borrow.Author.Tests.{eq-eqb, ne_eqb, lt-ltb}
use Rattle.wire.specs.Bytes.{Bytes, same}
use Rattle.wire.specs.Writes.{Found}
use Rattle.wire.proofs.Bytes.{and-first, and-each, same-refl, same-differ}
use Rattle.wire.proofs.Writes.{found-as, found-whole, whole-found}
use Rattle.format.specs.Machines.{known, arm64x}
use Rattle.format.specs.Names.{stem}
use Rattle.format.specs.Layouts.{Member, descriptor, null_descriptor, null_thunk, short, weak, dll_at, import_header_size, descriptor_name, null_name, compat_stem, encode}
use Rattle.format.specs.Reader.{between, admits_dll, admits_stem, admits_export, ordinary, admits, thunk_strings_at, weak_strings_at, right, span, absent, stem_span, fields, fields_or_refused}
use Rattle.format.specs.Refusals.{refusal}
use Rattle.format.specs.declared.Reason.TheVariants.{NotAMember}
use Rattle.format.specs.declared.Read.{Read}
use Rattle.format.specs.declared.Read.TheVariants.{Descriptor, NullDescriptor, NullThunk, ShortImport, WeakExternal}
use Rattle.laws.proofs.ReadBack.{between-true}
use Rattle.members.specs.Members.{short_of}
use Rattle.members.proofs.Cases.{short-plain, short-exported}
use Rattle.reader.specs.Answers.{answer, admits_names, admits_types}

-- ---- the answer

-- the member is not admitted
pub barred : (b : Bytes) (m : Member) → admits m ≡ false → Err (refusal NotAMember 0) ≡ answer b m
unfolding answer right fields_or_refused
barred b m e = rw e

-- its bytes are not all of b
pub lost : {r : ℕ} (b : Bytes) (m : Member) → admits m ≡ true → Found b 0 (encode m) r → (r ≡ length b → ⊥) → Err (refusal NotAMember 0) ≡ answer b m
unfolding answer right fields_or_refused
lost b m a f n = rw (a, same-differ (encode m) b (λ e. n (whole-found f (sym e))))

-- its bytes are others
pub unlike : (b : Bytes) (m : Member) → (encode m ≡ b → ⊥) → Err (refusal NotAMember 0) ≡ answer b m
unfolding answer right fields_or_refused
unlike b m n = rw (same-differ (encode m) b n) (pick (admits m))
  where
    pick : (t : Bool) → Err (refusal NotAMember 0) ≡ fields_or_refused (if t && false then some m else none)
    pick true = refl
    pick false = refl

-- they are
pub found : {r : ℕ} {x : Read} (b : Bytes) (m : Member) → admits m ≡ true → Found b 0 (encode m) r → r ≡ length b → x ≡ fields m → Ok x ≡ answer b m
unfolding answer right fields_or_refused
found b m a f e q =
    let s : same (encode m) b ≡ true = ap (same (encode m)) (found-whole f e) ∙ same-refl (encode m) in
    rw (a, s) (ap Ok q)

-- ---- names

pub between-most : (low high n : ℕ) (s : Bytes) → between low high s ≡ true → high ≤ n → length s ≤ n
between-most low high n s e h = omega (arith, (between-true low high s e).1)

pub dll-most : (n : ℕ) (s : Bytes) → admits_dll s ≡ true → 255 ≤ n → length s ≤ n
unfolding admits_dll
dll-most n s e h = between-most 1 255 n s (and-first _ _ e) h

pub names-most : (n : ℕ) (s dll : Bytes) → admits_names s dll ≡ true → 8190 ≤ n → (length s ≤ n) × (length dll ≤ n)
unfolding admits_names
names-most n s dll e h =
    let (symbol, name) = and-each (between 1 8190 s) (admits_dll dll ∷ []) e in
    (between-most 1 8190 n s symbol h, dll-most n dll name (omega arith))

-- ---- the import descriptor

module _ (m : ℕ) (dll : Bytes) (compat : Bool) where
  pub admits-descriptor : ordinary m ≡ true → admits_dll dll ≡ true → admits (descriptor m dll compat) ≡ true
  unfolding admits
  admits-descriptor e f = rw (e, f)

  pub descriptor-fields : (k : Bytes) → k ≡ stem dll
      → Descriptor m compat (span dll_at (length dll)) (span (dll_at + (length dll + 1) + 150) (length k)) ≡ fields (descriptor m dll compat)
  unfolding fields descriptor_name
  descriptor-fields k e =
      let at : dll_at + (length dll + 1) + 150 ≡ dll_at + (length dll + 1) + 126 + 4 + 20 = omega arith in
      rw (e, at)

-- ---- the null import descriptor

module _ (m : ℕ) where
  pub admits-null : ordinary m ≡ true → admits (null_descriptor m none) ≡ true
  unfolding admits admits_stem
  admits-null e = rw e

  pub null-fields : NullDescriptor m false absent ≡ fields (null_descriptor m none)
  unfolding fields stem_span
  null-fields = refl

  pub admits-null-of : (s : Bytes) {t : Bool} → ordinary m ≡ true → between 1 255 s ≡ t → admits (null_descriptor m (some s)) ≡ t
  unfolding admits admits_stem
  admits-null-of s e f = rw (e, f)

  pub null-of-fields : (s : Bytes) → NullDescriptor m true (span 127 (length s)) ≡ fields (null_descriptor m (some s))
  unfolding fields stem_span null_name
  null-of-fields s = refl

-- as the functions that look for it have it
pub null-plain : {b : Bytes} {r : ℕ} (m : ℕ) (s : Bytes) → Found b 0 (encode (null_descriptor m (compat_stem false s))) r → Found b 0 (encode (null_descriptor m none)) r
unfolding compat_stem
null-plain m s f = f

pub null-of : {b : Bytes} {r : ℕ} (m : ℕ) (s : Bytes) → Found b 0 (encode (null_descriptor m (compat_stem true s))) r → Found b 0 (encode (null_descriptor m (some s))) r
unfolding compat_stem
null-of m s f = f

-- ---- the null thunk

module _ (m : ℕ) (s : Bytes) where
  pub admits-thunk : {t : Bool} → ordinary m ≡ true → between 1 255 s ≡ t → admits (null_thunk m s) ≡ t
  unfolding admits
  admits-thunk e f = rw (e, f)

  pub thunk-fields : (at : ℕ) → at ≡ thunk_strings_at m → NullThunk m (span (at + 1) (length s)) ≡ fields (null_thunk m s)
  unfolding fields
  thunk-fields at e = rw e

-- ---- the short import

module _ (m o k t : ℕ) (s dll x : Bytes) (typed : admits_types m k t ≡ true) (ordinal : o < 65536) where
  abbrev rest : Bool
  rest = between 1 8190 s && admits_dll dll && admits_export t x

  admits-short : admits (short m o k t s dll x) ≡ rest
  unfolding admits admits_types
  admits-short =
      let (a, (b, (c, d))) = and-each (known m) (not (eqb m arm64x) ∷ leb k 2 ∷ leb t 4 ∷ []) typed in
      rw (a, b, lt-ltb o 65536 ordinal, c, d)

  pub short-unfit : admits_names s dll ≡ false → admits (short m o k t s dll x) ≡ false
  unfolding admits_names
  short-unfit e = admits-short ∙ rw e

  pub short-exported-by : {q : Bool} → admits_names s dll ≡ true → t ≡ 4 → between 1 8190 x ≡ q → admits (short m o k t s dll x) ≡ q
  unfolding admits_names admits_export
  short-exported-by e four g = admits-short ∙ rw (e, eq-eqb t 4 four, g)

pub short-unexported : (m o k t : ℕ) (s dll : Bytes) → admits_types m k t ≡ true → o < 65536 → admits_names s dll ≡ true → (t ≡ 4 → ⊥)
    → admits (short m o k t s dll []) ≡ true
unfolding admits_names admits_export same
short-unexported m o k t s dll typed ordinal e n = admits-short m o k t s dll [] typed ordinal ∙ rw (e, ne_eqb t 4 n)

-- by the number of both types that the functions look for
pub short-found : {b : Bytes} {r : ℕ} (m o n : ℕ) (s dll : Bytes) → (n / 4 ≡ 4 → ⊥) → Found b 0 (short_of m o n (s ∷ dll ∷ [])) r
    → Found b 0 (encode (short m o (n % 4) (n / 4) s dll [])) r
short-found m o n s dll d f =
    let e : n ≡ n / 4 * 4 + n % 4 = omega arith in
    found-as (ap (λ (n : ℕ). short_of m o n (s ∷ dll ∷ [])) e ∙ short-plain m o (n % 4) (n / 4) (n / 4) (n % 4) s dll [] refl refl d) f

pub short-as-found : {b : Bytes} {r : ℕ} (m o n : ℕ) (s dll x : Bytes) → n / 4 ≡ 4 → Found b 0 (short_of m o n (s ∷ dll ∷ x ∷ [])) r
    → Found b 0 (encode (short m o (n % 4) (n / 4) s dll x)) r
short-as-found m o n s dll x d f =
    let e : n ≡ n / 4 * 4 + n % 4 = omega arith in
    found-as (ap (λ (n : ℕ). short_of m o n (s ∷ dll ∷ x ∷ [])) e ∙ short-exported m o (n % 4) (n / 4) (n / 4) (n % 4) s dll x refl refl d) f

module _ (m o k t : ℕ) (s dll x : Bytes) where
  pub short-fields : (t ≡ 4 → ⊥) → ShortImport m o t k (span import_header_size (length s)) (span (import_header_size + (length s + 1)) (length dll)) absent ≡ fields (short m o k t s dll x)
  unfolding fields
  short-fields n = rw (ne_eqb t 4 n)

  pub short-as-fields : t ≡ 4
      → ShortImport m o t k (span import_header_size (length s)) (span (import_header_size + (length s + 1)) (length dll)) (span (import_header_size + (length s + 1) + (length dll + 1)) (length x))
      ≡ fields (short m o k t s dll x)
  unfolding fields
  short-as-fields e = rw (eq-eqb t 4 e)

-- ---- the weak external

module _ (m : ℕ) (target alias : Bytes) (o : ordinary m ≡ true) where
  pub weak-unfit : between 1 8195 target ≡ false → admits (weak m target alias) ≡ false
  unfolding admits
  weak-unfit e = rw (o, e)

  pub admits-weak : {t : Bool} → between 1 8195 target ≡ true → between 1 8195 alias ≡ t → admits (weak m target alias) ≡ t
  unfolding admits
  admits-weak e f = rw (o, e, f)

pub weak-fields : (m : ℕ) (target alias : Bytes)
    → WeakExternal m (span weak_strings_at (length target)) (span (weak_strings_at + (length target + 1)) (length alias)) ≡ fields (weak m target alias)
unfolding fields
weak-fields m target alias = refl
