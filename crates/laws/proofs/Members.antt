-- Every member of an accepted list is one that the reader admits.
use Rattle.std.specs.Prelude.{Ok, if◌then◌else◌}
use Prim.Native.Nat.{ℕ, zero, suc, ◌+◌, ◌≤◌, ◌<◌}
use mathlib.Core.Path.{◌≡◌, refl, sym}
use mathlib.Core.Logic.{⊎_elim}
use mathlib.Core.Bool.{Bool, true, false, ◌||◌, not}
use mathlib.Core.Option.{Option, none, some, none-ne-some}
use mathlib.Core.List.Memᴰ
use mathlib.Core.List.{List, [], ◌∷◌, ◌++◌, Memᴰ}
use native.Mathlib.Omega.{arith}
use lib.ListN.{length, get_or, length-append, length-take}
use lib.Dec.{eqb}
use borrow.Author.Tests.{le-leb, lt-ltb}
use Rattle.wire.specs.Bytes.{Bytes, Octets, ascii, same, holds, last, or_else}
use Rattle.wire.proofs.Bytes.{and-first, and-next, both-true, or-next, holds-take, u16_at-small, join-within}
use Rattle.format.specs.Machines.{i386, armnt, amd64, arm64, arm64ec, arm64x, known, hybrid, first_machine, native_machine}
use Rattle.format.specs.Exports.{Export, dll_name, ordinal_at, export_at, exports_from, first_exports, native_exports, first_count, native_count, is_private}
use Rattle.format.specs.Names.{dot, up_to_dot, stem, barred_dll}
use Rattle.format.specs.Plan.{Plan, plain, deferred, refused, kind, plan}
use Rattle.format.specs.Layouts.{Member, descriptor, null_descriptor, null_thunk, short, weak, compat_stem}
use Rattle.format.specs.Library.{Options, imp, answers_to, final, last_answering, short_member, alias_members, alias_or_short, deferred_member, shorts, deferreds, members_of, fixed_members, first_members, native_members, all_members}
use Rattle.format.specs.Refusals.{max_dll, check_exports}
use Rattle.format.specs.Reader.{between, admits_dll, admits_stem, admits_export, ordinary, admits}
use Rattle.laws.proofs.Accepted.{Good, GoodExport, Accepted, accepted}
use Rattle.laws.proofs.Names.{last-at}
use Rattle.laws.proofs.ReadBack.{known-each}
use Rattle.laws.proofs.Plans.{Clear, max_public, max_final, kind-small, Exported, of-exportas, of-other, PlainBounds, DeferredBounds, PlanBounds, of-plain, of-deferred, plan-bounds}

-- ---- names between limits

pub between-is : (low high : ℕ) (s : Bytes) → low ≤ length s → length s ≤ high → holds 0 s ≡ false → between low high s ≡ true
unfolding between
between-is low high s l h c = rw (le-leb _ _ l, le-leb _ _ h, c)

imp-clear : (s : Bytes) → holds 0 s ≡ false → holds 0 (imp s) ≡ false
unfolding holds
imp-clear s e = e

imp-length : (s : Bytes) → length (imp s) ≡ 6 + length s
imp-length s = length-append (ascii "__imp_") s

export-admitted : (t : ℕ) (x : Bytes) → Exported t x → admits_export t x ≡ true
unfolding admits_export same
export-admitted t x (of-exportas g) = between-is 1 8190 x g.some-bytes g.few g.clear
export-admitted t x (of-other n) = rw n

-- ---- the stem

pub stem-good : (limit : ℕ) (d : Bytes) → Good limit d → Good limit (stem d)
unfolding stem up_to_dot
stem-good limit d g = pick (last (λ i. eqb (get_or d i 0) dot) (length d)) refl
  where
    pick : (i : Option ℕ) → last (λ i. eqb (get_or d i 0) dot) (length d) ≡ i → Good limit (up_to_dot d i)
    pick none e = g
    pick (some zero) e = g
    pick (some (suc i)) e =
        let a = last-at (λ i. eqb (get_or d i 0) dot) (length d) (suc i) e in
        let n = length-take (suc i) d in
        record {
          some-bytes = omega (arith, a.below);
          few = omega (arith, g.few);
          clear = holds-take 0 (suc i) d g.clear;
        }

-- ---- machines

-- a machine that a list may have: one of the table, ARM64X nowhere
pub record ListMachine (m : ℕ) : Type 0 where
  pub is-known : known m ≡ true
  pub not-arm64x : eqb m arm64x ≡ false

pub data Machine : ℕ → Type 0 where
  is-i386 : Machine i386
  is-armnt : Machine armnt
  is-amd64 : Machine amd64
  is-arm64 : Machine arm64
  is-arm64ec : Machine arm64ec
  is-arm64x : Machine arm64x

pub machine-cases : (m : ℕ) → known m ≡ true → Machine m
machine-cases = known-each Machine is-i386 is-armnt is-amd64 is-arm64 is-arm64ec is-arm64x

pub first-machine : (m : ℕ) → Machine m → ListMachine (first_machine m)
unfolding first_machine hybrid known
first-machine m is-i386 = record { is-known = refl; not-arm64x = refl }
first-machine m is-armnt = record { is-known = refl; not-arm64x = refl }
first-machine m is-amd64 = record { is-known = refl; not-arm64x = refl }
first-machine m is-arm64 = record { is-known = refl; not-arm64x = refl }
first-machine m is-arm64ec = record { is-known = refl; not-arm64x = refl }
first-machine m is-arm64x = record { is-known = refl; not-arm64x = refl }

pub native-ordinary : (m : ℕ) → Machine m → ordinary (native_machine m) ≡ true
unfolding native_machine hybrid known
native-ordinary m is-i386 = refl
native-ordinary m is-armnt = refl
native-ordinary m is-amd64 = refl
native-ordinary m is-arm64 = refl
native-ordinary m is-arm64ec = refl
native-ordinary m is-arm64x = refl

pub ordinary-listed : (m : ℕ) → ordinary m ≡ true → ListMachine m
unfolding hybrid
ordinary-listed m e =
    record {
      is-known = and-first (known m) (not (hybrid m)) e;
      not-arm64x = or-next (eqb m arm64ec) (eqb m arm64x) (inverse (eqb m arm64ec || eqb m arm64x) (and-next (known m) (not (hybrid m)) e));
    }
  where
    inverse : (t : Bool) → not t ≡ true → t ≡ false
    inverse true e = cc
    inverse false e = refl

listed-ordinary : (m : ℕ) → ListMachine m → eqb m arm64ec ≡ false → ordinary m ≡ true
unfolding hybrid
listed-ordinary m l e = simp (l.is-known, e, l.not-arm64x)

-- ---- the members of one list

module _ (machine : ℕ) (mingw : Bool) (dll : Bytes) (listed : ListMachine machine) (admitted : admits_dll dll ≡ true) where
  short-admitted : (o k t : ℕ) (f x : Bytes) → o < 65536 → k ≤ 2 → t ≤ 4 → 1 ≤ length f → Clear max_final f → Exported t x
      → admits (short machine o k t f dll x) ≡ true
  unfolding admits
  short-admitted o k t f x ho hk ht sf cf ex =
      simp (
        listed.is-known,
        listed.not-arm64x,
        lt-ltb _ _ ho,
        le-leb _ _ hk,
        le-leb _ _ ht,
        between-is 1 8190 f sf cf.few cf.clear,
        admitted,
        export-admitted t x ex,
      )

  weak-admitted : (t a : Bytes) → eqb machine arm64ec ≡ false → 1 ≤ length t → Clear 8195 t → 1 ≤ length a → Clear 8195 a → admits (weak machine t a) ≡ true
  unfolding admits
  weak-admitted t a m st ct sa ca =
      simp (listed-ordinary machine listed m, between-is 1 8195 t st ct.few ct.clear, between-is 1 8195 a sa ca.few ca.clear)

  -- a name with its prefix
  imp-few : (s : Bytes) → Clear max_public s → Clear 8195 (imp s)
  imp-few s c = record { few = omega (arith, imp-length s, c.few); clear = imp-clear s c.clear }

  imp-some : (s : Bytes) → 1 ≤ length (imp s)
  imp-some s = omega (arith, imp-length s)

  alias-admitted : (k : ℕ) (t a : Bytes) (m : Member) → eqb machine arm64ec ≡ false → 1 ≤ length t → Clear max_public t → 1 ≤ length a → Clear max_public a
      → Memᴰ m (alias_members machine k t a) → admits m ≡ true
  unfolding alias_members
  alias-admitted k t a m e st ct sa ca i = ⊎_elim (λ j. plain (eqb k 0) j) (λ j. prefixed j) (Memᴰ.append_cases (if eqb k 0 then weak machine t a ∷ [] else []) i)
    where
      more : (s : Bytes) → Clear max_public s → Clear 8195 s
      more s c = record { few = omega (arith, c.few); clear = c.clear }

      prefixed : Memᴰ m (weak machine (imp t) (imp a) ∷ []) → admits m ≡ true
      prefixed j = rw (Memᴰ.eq_of_singleton j) (weak-admitted (imp t) (imp a) e (imp-some t) (imp-few t ct) (imp-some a) (imp-few a ca))

      plain : (q : Bool) → Memᴰ m (if q then weak machine t a ∷ [] else []) → admits m ≡ true
      plain true j = rw (Memᴰ.eq_of_singleton j) (weak-admitted t a e st (more t ct) sa (more a ca))
      plain false j = absurd (Memᴰ.not-nil j)

-- an export of bytes has an ordinal of two
pub record Numbered (e : Export) : Type 0 where
  pub small : e.ordinal < 65536

pub exports-numbered : (b : Bytes) → Octets b → (k n : ℕ) (e : Export) → Memᴰ e (exports_from b k n) → Numbered e
unfolding exports_from export_at
exports-numbered b o k zero e i = absurd (Memᴰ.not-nil i)
exports-numbered b o k (suc n) e i = pick (is_private (export_at b k)) i (exports-numbered b o (k + 1) n e)
  where
    here : e ≡ export_at b k → Numbered e
    here q = rw q (record { small = u16_at-small b (ordinal_at k) o })

    pick : (t : Bool) → Memᴰ e (if t then exports_from b (k + 1) n else export_at b k ∷ exports_from b (k + 1) n)
        → (Memᴰ e (exports_from b (k + 1) n) → Numbered e) → Numbered e
    pick true j ih = ih j
    pick false j ih = ⊎_elim here ih (Memᴰ.cases_cons j)

-- ---- the last import that answers to a wanted name is one of the list's, written at once

pub record Answering (machine : ℕ) (mingw : Bool) (wanted : Bytes) (es : List Export) (a : Export) : Type 0 where
  pub listed : Memᴰ a es
  pub answers : answers_to wanted (plan machine mingw a) ≡ true

pub last-answering : (machine : ℕ) (mingw : Bool) (wanted : Bytes) (es : List Export) (a : Export)
    → last_answering machine mingw wanted es ≡ some a → Answering machine mingw wanted es a
unfolding last_answering or_else
last-answering machine mingw wanted [] a e = absurd (none-ne-some a e)
last-answering machine mingw wanted (x ∷ es) a e =
    pick (last_answering machine mingw wanted es) (answers_to wanted (plan machine mingw x)) refl e (last-answering machine mingw wanted es a)
  where
    pick : (rest : Option Export) (t : Bool) → answers_to wanted (plan machine mingw x) ≡ t → or_else rest (if t then some x else none) ≡ some a
        → (rest ≡ some a → Answering machine mingw wanted es a) → Answering machine mingw wanted (x ∷ es) a
    pick (some y) t h e ih = let r = ih e in record { listed = Memᴰ.tail r.listed; answers = r.answers }
    pick none true h e ih = let q : x ≡ a = cc in record { listed = Memᴰ.head (sym q); answers = rw (← q) h }
    pick none false h e ih = absurd (none-ne-some a e)

-- the plan of an import that answers
pub data Plain (machine : ℕ) : Plan → Type 0 where
  is-plain : {f x : Bytes} {t : ℕ} → PlainBounds machine f t x → Plain machine (plain f t x)

pub answers-plain : (machine : ℕ) (wanted : Bytes) (p : Plan) → PlanBounds machine p → answers_to wanted p ≡ true → Plain machine p
unfolding answers_to
answers-plain machine wanted (plain f t x) (of-plain b) e = is-plain b
answers-plain machine wanted (deferred p w) b e = let z : ◌≡◌ {A = ℕ} 0 1 = cc in absurd (omega arith)
answers-plain machine wanted (refused n) b e = let z : ◌≡◌ {A = ℕ} 0 1 = cc in absurd (omega arith)

final-some : (machine : ℕ) (p : Plan) → Plain machine p → 1 ≤ length (final p)
unfolding final
final-some machine (plain f t x) (is-plain b) = b.some-bytes
final-some machine (deferred p w) q = elim q [ ]
final-some machine (refused n) q = elim q [ ]

final-clear : (machine : ℕ) (p : Plan) → eqb machine arm64ec ≡ false → Plain machine p → Clear max_public (final p)
unfolding final
final-clear machine (plain f t x) m (is-plain b) = record { few = b.unmangled m; clear = b.named.clear }
final-clear machine (deferred p w) m q = elim q [ ]
final-clear machine (refused n) m q = elim q [ ]

module _ (machine : ℕ) (mingw : Bool) (dll : Bytes) (listed : ListMachine machine) (admitted : admits_dll dll ≡ true)
    (es : List Export) (goods : (e : Export) → Memᴰ e es → GoodExport e) (numbers : (e : Export) → Memᴰ e es → Numbered e) where
  shorts-admitted : (m : Member) (e : Export) (p : Plan) → e.ordinal < 65536 → PlanBounds machine p → Memᴰ m (short_member machine dll e p) → admits m ≡ true
  unfolding short_member
  shorts-admitted m e (plain f t x) o (of-plain b) i =
      rw (Memᴰ.eq_of_singleton i)
      (short-admitted machine mingw dll listed admitted e.ordinal (kind e) t f x o (kind-small e) b.type b.some-bytes b.named b.exported)
  shorts-admitted m e (deferred p w) o b i = absurd (Memᴰ.not-nil i)
  shorts-admitted m e (refused n) o b i = absurd (Memᴰ.not-nil i)

  or-short-admitted : (m : Member) (e : Export) (p w : Bytes) (a : Option Export) → last_answering machine mingw w es ≡ a → e.ordinal < 65536 → DeferredBounds machine p w
      → Memᴰ m (alias_or_short machine mingw dll e p w a) → admits m ≡ true
  unfolding alias_or_short
  or-short-admitted m e p w none q o b i =
      rw (Memᴰ.eq_of_singleton i)
      (short-admitted machine mingw dll listed admitted e.ordinal (kind e) 4 p w o (kind-small e) (omega arith) b.some-bytes
      (record { few = omega (arith, b.named.few); clear = b.named.clear })
      (of-exportas (record { some-bytes = b.wanted.some-bytes; few = omega (arith, b.wanted.few); clear = b.wanted.clear })))
  or-short-admitted m e p w (some a) q o b i =
      let r = last-answering machine mingw w es a q in
      let s = answers-plain machine w (plan machine mingw a) (plan-bounds machine mingw a (goods a r.listed)) r.answers in
      alias-admitted machine mingw dll listed admitted (kind e) (final (plan machine mingw a)) p m b.native
      (final-some machine (plan machine mingw a) s) (final-clear machine (plan machine mingw a) b.native s) b.some-bytes b.named i

  deferreds-admitted : (m : Member) (e : Export) (p : Plan) → e.ordinal < 65536 → PlanBounds machine p → Memᴰ m (deferred_member machine mingw dll es e p)
      → admits m ≡ true
  unfolding deferred_member
  deferreds-admitted m e (plain f t x) o b i = absurd (Memᴰ.not-nil i)
  deferreds-admitted m e (deferred p w) o (of-deferred b) i = or-short-admitted m e p w (last_answering machine mingw w es) refl o b i
  deferreds-admitted m e (refused n) o b i = absurd (Memᴰ.not-nil i)

  pub list-admitted : (m : Member) → Memᴰ m (members_of machine mingw dll es) → admits m ≡ true
  unfolding members_of shorts deferreds
  list-admitted m i =
      ⊎_elim
      (λ j.
      let w = join-within (λ (e : Export). short_member machine dll e (plan machine mingw e)) es m j in
      shorts-admitted m w.of (plan machine mingw w.of) (numbers w.of w.listed).small
      (plan-bounds machine mingw w.of (goods w.of w.listed)) w.there)
      (λ j.
      let w = join-within (λ (e : Export). deferred_member machine mingw dll es e (plan machine mingw e)) es m j in
      deferreds-admitted m w.of (plan machine mingw w.of) (numbers w.of w.listed).small
      (plan-bounds machine mingw w.of (goods w.of w.listed)) w.there)
      (Memᴰ.append_cases (shorts machine mingw dll es) i)

-- ---- all members of an accepted list

dll-admitted : (d : Bytes) → Good max_dll d → barred_dll d ≡ false → admits_dll d ≡ true
unfolding admits_dll
dll-admitted d g b = simp (between-is 1 255 d g.some-bytes g.few g.clear, b)

stem-admitted : (compat : Bool) (s : Bytes) → Good max_dll s → admits_stem (compat_stem compat s) ≡ true
unfolding admits_stem compat_stem
stem-admitted true s g = between-is 1 255 s g.some-bytes g.few g.clear
stem-admitted false s g = refl

pub fixed-admitted : (o : Options) (b : Bytes) → Accepted o b → (m : Member) → Memᴰ m (fixed_members o b) → admits m ≡ true
unfolding fixed_members admits
fixed-admitted o b a m i = ⊎_elim one (λ j. ⊎_elim two (λ k. ⊎_elim three (λ l. absurd (Memᴰ.not-nil l)) (Memᴰ.cases_cons k)) (Memᴰ.cases_cons j)) (Memᴰ.cases_cons i)
  where
    machine : ordinary (native_machine o.machine) ≡ true
    machine = native-ordinary o.machine (machine-cases o.machine a.machine)

    good : Good max_dll (stem (dll_name b))
    good = stem-good max_dll (dll_name b) a.dll

    one : m ≡ descriptor (native_machine o.machine) (dll_name b) o.compat → admits m ≡ true
    one e = rw e (both-true _ _ machine (dll-admitted (dll_name b) a.dll a.unbarred))

    two : m ≡ null_descriptor (native_machine o.machine) (compat_stem o.compat (stem (dll_name b))) → admits m ≡ true
    two e = rw e (both-true _ _ machine (stem-admitted o.compat (stem (dll_name b)) good))

    three : m ≡ null_thunk (native_machine o.machine) (stem (dll_name b)) → admits m ≡ true
    three e = rw e (both-true _ _ machine (between-is 1 255 (stem (dll_name b)) good.some-bytes good.few good.clear))

pub first-admitted : (o : Options) (b : Bytes) → Octets b → Accepted o b → (m : Member) → Memᴰ m (first_members o b) → admits m ≡ true
unfolding first_members first_exports
first-admitted o b small a =
    list-admitted (first_machine o.machine) o.mingw (dll_name b) (first-machine o.machine (machine-cases o.machine a.machine))
    (dll-admitted (dll_name b) a.dll a.unbarred) (first_exports b) a.firsts (exports-numbered b small 0 (first_count b))

pub native-admitted : (o : Options) (b : Bytes) → Octets b → Accepted o b → (m : Member) → Memᴰ m (native_members o b) → admits m ≡ true
unfolding native_members native_exports
native-admitted o b small a =
    list-admitted (native_machine o.machine) o.mingw (dll_name b)
    (ordinary-listed (native_machine o.machine) (native-ordinary o.machine (machine-cases o.machine a.machine)))
    (dll-admitted (dll_name b) a.dll a.unbarred) (native_exports b) a.natives (exports-numbered b small (first_count b) (native_count b))

pub all-admitted : (o : Options) (b : Bytes) → Octets b → check_exports o b ≡ Ok tt → (m : Member) → Memᴰ m (all_members o b) → admits m ≡ true
unfolding all_members
all-admitted o b small e m i =
    let a = accepted o b e in
    ⊎_elim
    (λ j. ⊎_elim (fixed-admitted o b a m) (first-admitted o b small a m) (Memᴰ.append_cases (fixed_members o b) j))
    (native-admitted o b small a m)
    (Memᴰ.append_cases (fixed_members o b ++ first_members o b) i)
