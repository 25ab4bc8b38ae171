-- What is written of a record, by what the functions are told; and the records of a list, one after another.
use Rattle.std.specs.Prelude.{if◌then◌else◌, Ok, Err}
use Rattle.std.specs.Prelude as std
use Prim.Native.Nat.{ℕ, zero, suc, ◌+◌, ◌-◌, ◌≤◌, ◌<◌}
use mathlib.Core.Path.{◌≡◌, refl, sym, ap, ap₂, ◌∙◌}
use mathlib.Core.Bool.{Bool, true, false, ◌&&◌, ◌||◌, not}
use mathlib.Core.Option
use mathlib.Core.Option.{Option, none, some, get_or}
use mathlib.Core.List.{List, [], ◌∷◌, ◌++◌, map, append-nil, append_assoc}
use native.Mathlib.Nat.{add-zero}
use native.Mathlib.Omega.{arith}
use lib.Dec.{eqb}
use lib.ListN.{length}
use borrow.Author.Tests.{eq-eqb, ne_eqb, eqb-false}
use Rattle.wire.specs.Bytes.{Bytes, same, starts, holds, join, is_some}
use Rattle.wire.proofs.Bytes.{and-each, not-true}
use Rattle.format.specs.Machines.{i386, arm64ec}
use Rattle.format.specs.Names.{hash, question, underscore, at_sign, plain_type, tagged, demangle}
use Rattle.format.specs.Exports.{Export, field_at, absent_at, bytes_at, string_at, is_private, noname, export_at, exports_from}
use Rattle.format.specs.Plan as P
use Rattle.format.specs.Plan.{Plan, base, kind, public_name, free, ec_code, choose, choose_named, choose_import, exporting, mangled, plan_choice, plan_public, plan}
use Rattle.format.specs.Layouts.{Member, short, encode}
use Rattle.format.specs.Library.{answers_to, final, last_answering, short_member, alias_members, alias_or_short, deferred_member, shorts, deferreds, members_of}
use Rattle.format.proofs.Strings.{string-get_or}
use Rattle.laws.proofs.Lengths.{length-encode-short}
use Rattle.laws.proofs.Names.{At}
use Rattle.laws.proofs.Demand3.{answers-is, plain-public}
use Rattle.coff.specs.Import.{type_number}
use Rattle.plans.specs.Shape.{source_of, short_of, planned}
use Rattle.plans.specs.Keys.{key_at, last_in}
use Rattle.plans.specs.declared.Short.{Short}
use Rattle.format.specs.declared.Reason.{Reason}
use Rattle.format.specs.declared.Reason.TheVariants.{NotMangled}
use Rattle.names.specs.Built.{name_of}
use Rattle.names.specs.Rename.{Renamed}
use Rattle.names.specs.declared.built.BuiltName.{BuiltName}
use Rattle.plans.proofs.Choices.{string-none, string-some}
use Rattle.names.proofs.Renamings.{name-some}
use Rattle.plans.proofs.Publics.{public-base}
use Rattle.plans.proofs.Answering.{last-answering-in}
use Rattle.keys.specs.Targets.{target_of}
use Rattle.keys.proofs.Targets.{target-none, target-some}
use Rattle.walks.specs.Pen.{Room, Drew}
use Rattle.walks.specs.Walk.{import_of, direct, drawn, members_at, members_in, record_members, pass_members}
use Rattle.walks.proofs.Pens.{room-as, room-sized, room-first, room-next, drew-as, drew-sized, drew-more}

-- ---- the import that an alias leads to

-- the last place at which a test holds is one of the places, and it holds there
last_in-at : (p : ℕ → Bool) (k n i : ℕ) → last_in p k n ≡ some i → At p k (k + n) i
unfolding last_in
last_in-at p k zero i e = let z : ◌≡◌ {A = ℕ} 0 1 = cc in absurd (omega arith)
last_in-at p k (suc n) i e = pick (p (k + n)) refl e (last_in-at p k n i)
  where
    pick : (t : Bool) → p (k + n) ≡ t → (if t then some (k + n) else last_in p k n) ≡ some i → (last_in p k n ≡ some i → At p k (k + n) i) → At p k (k + suc n) i
    pick true h e ih =
        let here : k + n ≡ i = cc in
        record { from-on = omega arith; below = omega arith; holds-there = ap p (sym here) ∙ h }
    pick false h e ih =
        let a = ih e in
        record { from-on = a.from-on; below = omega (arith, a.below); holds-there = a.holds-there }

-- a record that answers: its public name is its final name
pub record Answers (machine : ℕ) (mingw : Bool) (b : Bytes) (i : ℕ) : Type 0 where
  pub public : Bytes
  pub named : public_name (export_at b i) ≡ some public
  pub final-is : final (plan machine mingw (export_at b i)) ≡ public

key-answers : (machine : ℕ) (mingw : Bool) (b w : Bytes) (i : ℕ) → (machine ≡ arm64ec → ⊥) → key_at machine mingw b w i ≡ true → Answers machine mingw b i
unfolding key_at final
key-answers machine mingw b w i m h = pick (is_private (export_at b i)) h
  where
    pick : (t : Bool) → (if t then false else answers_to w (plan machine mingw (export_at b i))) ≡ true → Answers machine mingw b i
    pick true h = let z : ◌≡◌ {A = ℕ} 0 1 = cc in absurd (omega arith)
    pick false h =
        let p = answers-is w (plan machine mingw (export_at b i)) h in
        record {
          public = p.f;
          named = plain-public machine mingw (export_at b i) p.f p.x p.t (ne_eqb machine arm64ec m) p.is;
          final-is = ap final p.is;
        }

-- by the target that was found for a record
module _ (machine : ℕ) (mingw : Bool) (b dll p : Bytes) (k from n : ℕ) {t : ℕ} (is : t ≡ target_of (last_in (key_at machine mingw b (bytes_at b (field_at k 3))) from n)) where
  abbrev wanted : Bytes
  wanted = bytes_at b (field_at k 3)

  abbrev last : Option ℕ
  last = last_in (key_at machine mingw b wanted) from n

  answering : (q : Option ℕ) → last ≡ q → last_answering machine mingw wanted (exports_from b from n) ≡ Option.map (export_at b) q
  answering q e = last-answering-in machine mingw b wanted from n ∙ ap (Option.map (export_at b)) e

  -- none answers: the record's own import
  pub deferred-none : {s : Bytes} → s ≡ bytes_at b (field_at k 3) → from + n ≤ 8192 → t ≡ 65535 → import_of machine (export_at b k) 4 p dll (s ++ []) ∷ []
      ≡ alias_or_short machine mingw dll (export_at b k) p (bytes_at b (field_at k 3)) (last_answering machine mingw (bytes_at b (field_at k 3)) (exports_from b from n))
  unfolding alias_or_short
  deferred-none {s} w small e =
      let below : (i : ℕ) → last ≡ some i → i < 8192 = λ i h. omega (arith, (last_in-at (key_at machine mingw b wanted) from n i h).below) in
      rw (answering none (target-none last below (sym is ∙ e)), append-nil s, w)

  module _ (e : t ≡ 65535 → ⊥) where
    there : At (key_at machine mingw b wanted) from (from + n) t
    there = last_in-at (key_at machine mingw b wanted) from n t (target-some last is e)

    pub answers-below : t < from + n
    answers-below = there.below

    module _ (m : machine ≡ arm64ec → ⊥) where
      the-one : Answers machine mingw b t
      the-one = key-answers machine mingw b wanted t m there.holds-there

      pub answers-named : is_some (public_name (export_at b t)) ≡ true
      unfolding is_some
      answers-named = rw the-one.named

      pub deferred-some : alias_members machine (kind (export_at b k)) (get_or (public_name (export_at b t)) []) p
          ≡ alias_or_short machine mingw dll (export_at b k) p (bytes_at b (field_at k 3)) (last_answering machine mingw (bytes_at b (field_at k 3)) (exports_from b from n))
      unfolding alias_or_short
      deferred-some = rw (answering (some t) (target-some last is e), the-one.named, the-one.final-is)

-- the name of the record that an alias leads to: its base, or built
module _ (b : Bytes) (k : ℕ) where
  pub target-base : {s : Bytes} → absent_at b (field_at k 1) ≡ true → s ≡ base (export_at b k) → s ≡ get_or (public_name (export_at b k)) []
  target-base a e = e ∙ ap (λ (o : Option Bytes). get_or o []) (sym (public-base b k a))

  pub target-there : {r : std.Option BuiltName} → Renamed (public_name (export_at b k)) r → is_some (public_name (export_at b k)) ≡ true → std.IsSome r
  unfolding is_some
  target-there {r = std.Some n} h e = refl
  target-there {r = std.None} h e =
      let no : is_some {A = Bytes} none ≡ true = ap is_some h.name ∙ e in
      let z : ◌≡◌ {A = ℕ} 0 1 = cc in absurd (omega arith)

  pub target-built : {s : Bytes} {r : std.Option BuiltName} {n : BuiltName} → Renamed (public_name (export_at b k)) r → r ≡ std.Some n → s ≡ name_of n
      → s ≡ get_or (public_name (export_at b k)) []
  target-built h e f = sym (ap (λ (o : Option Bytes). get_or o []) (name-some h e f))

pub alias-of : (machine : ℕ) (p : Bytes) {k j : ℕ} {s t : Bytes} → k ≡ j → s ≡ t → alias_members machine k s p ≡ alias_members machine j t p
alias-of machine p e f = rw (e, f)

-- ---- nothing is deferred on ARM64EC

abbrev is_deferred : Plan → Bool
is_deferred (P.plain f t x) = false
is_deferred (P.deferred p w) = true
is_deferred (P.refused n) = false

exporting-now : (p : Bytes) (o : Option Bytes) → is_deferred (exporting p o) ≡ false
unfolding exporting
exporting-now p none = refl
exporting-now p (some x) = refl

mangled-now : (f : Bool) (p : Bytes) (t : ℕ) (x : Bytes) → is_deferred (mangled f p t x) ≡ false
unfolding mangled
mangled-now f p t x = pick (not (starts question p || starts hash p)) (starts hash p || tagged p) f (exporting-now p (demangle p))
  where
    pick : (a b f : Bool) → is_deferred (exporting p (demangle p)) ≡ false
        → is_deferred (if a then (if f then P.plain (hash ∷ p) 4 p else P.plain (hash ∷ p) t x)
        else if b then (if f then exporting p (demangle p) else P.plain p t x) else (if f then P.refused NotMangled else P.plain p t x)) ≡ false
    pick true b true h = refl
    pick true b false h = refl
    pick false true true h = h
    pick false true false h = refl
    pick false false true h = refl
    pick false false false h = refl

typed-now : (machine : ℕ) (e : Export) (p : Bytes) (t : ℕ) (x : Bytes) → is_deferred (plan_choice machine e p (P.typed t x)) ≡ false
unfolding plan_choice
typed-now machine e p t x = pick (ec_code machine e) (mangled-now (free t) p t x)
  where
    pick : (a : Bool) → is_deferred (mangled (free t) p t x) ≡ false → is_deferred (if a then mangled (free t) p t x else P.plain p t x) ≡ false
    pick true h = h
    pick false h = refl

-- nothing is deferred without an import_name
unnamed-now : (machine : ℕ) (mingw : Bool) (e : Export) → e.import_name ≡ none → (q : Option Bytes) → is_deferred (plan_public machine mingw e q) ≡ false
unfolding plan_public choose choose_named
unnamed-now machine mingw e n = pick
  where
    chosen : (p : Bytes) (t : Bool) (x i : Option Bytes) → i ≡ none → is_deferred (plan_choice machine e p (if t then P.typed 0 [] else choose_named machine mingw e p x i)) ≡ false
    chosen p true x i h = typed-now machine e p 0 []
    chosen p false (some x) i h = typed-now machine e p 4 x
    chosen p false none none h = typed-now machine e p _ []
    chosen p false none (some w) h = let z : ◌≡◌ {A = ℕ} 0 1 = cc in absurd (omega arith)

    pick : (q : Option Bytes) → is_deferred (plan_public machine mingw e q) ≡ false
    pick none = refl
    pick (some []) = refl
    pick (some (c ∷ cs)) = chosen (c ∷ cs) (noname e) e.export_as e.import_name n

import-absent : (b : Bytes) (k : ℕ) → absent_at b (field_at k 3) ≡ true → (export_at b k).import_name ≡ none
unfolding export_at
import-absent b k a = string-none b (field_at k 3) a

pub deferred-wanted : (machine : ℕ) (mingw : Bool) (b : Bytes) (k : ℕ) (p : Bytes) → planned (export_at b k) p (Ok std.None) ≡ plan_public machine mingw (export_at b k) (some p)
    → absent_at b (field_at k 3) ≡ false
unfolding planned
deferred-wanted machine mingw b k p h = pick (absent_at b (field_at k 3)) refl
  where
    pick : (t : Bool) → absent_at b (field_at k 3) ≡ t → t ≡ false
    pick false e = refl
    pick true e =
        let no : is_deferred (plan_public machine mingw (export_at b k) (some p)) ≡ true = ap is_deferred (sym h) in
        sym no ∙ unnamed-now machine mingw (export_at b k) (import-absent b k e) (some p)

chosen-now : (e : Export) (mingw : Bool) (p : Bytes) → is_deferred (plan_choice arm64ec e p (choose arm64ec mingw e p)) ≡ false
unfolding choose choose_named choose_import
chosen-now e mingw p = pick (noname e) e.export_as e.import_name
  where
    pick : (t : Bool) (x i : Option Bytes) → is_deferred (plan_choice arm64ec e p (if t then P.typed 0 [] else choose_named arm64ec mingw e p x i)) ≡ false
    pick true x i = typed-now arm64ec e p 0 []
    pick false (some x) i = typed-now arm64ec e p 4 x
    pick false none (some w) = typed-now arm64ec e p 4 w
    pick false none none = typed-now arm64ec e p _ []

deferred-ec : (e : Export) (mingw : Bool) (p : Bytes) → is_deferred (plan_public arm64ec mingw e (some p)) ≡ false
unfolding plan_public
deferred-ec e mingw [] = refl
deferred-ec e mingw (c ∷ cs) = chosen-now e mingw (c ∷ cs)

pub deferred-native : (machine : ℕ) (mingw : Bool) (e : Export) (p : Bytes) → planned e p (Ok std.None) ≡ plan_public machine mingw e (some p) → machine ≡ arm64ec → ⊥
unfolding planned
deferred-native machine mingw e p h m =
    let no : is_deferred (plan_public arm64ec mingw e (some p)) ≡ true = ap is_deferred (sym (rw m at h)) in
    let both : true ≡ false = sym no ∙ deferred-ec e mingw p in
    let z : ◌≡◌ {A = ℕ} 0 1 = cc in absurd (omega arith)

-- ---- a record whose import is written at once and without an export string

pub record Direct (machine : ℕ) (mingw : Bool) (e : Export) (p : Bytes) : Type 0 where
  pub type : ℕ
  pub other : type ≡ 4 → ⊥
  pub planned : plan_public machine mingw e (some p) ≡ P.plain p type []

plain-type-small : (machine : ℕ) (mingw : Bool) (s n : Bytes) → plain_type machine mingw s n ≡ 4 → ⊥
unfolding plain_type
plain-type-small machine mingw s n = pick (starts underscore n && holds at_sign n && not mingw) (not (same s n)) (eqb machine i386 && starts underscore s)
  where
    pick : (a b c : Bool) → ◌≡◌ {A = ℕ} (if a then 1 else if b then 3 else if c then 2 else 1) 4 → ⊥
    pick true b c h = omega arith
    pick false true c h = omega arith
    pick false false true h = omega arith
    pick false false false h = omega arith

some-none : (o : Option Bytes) → not (is_some o) ≡ true → o ≡ none
unfolding is_some
some-none none h = refl
some-none (some x) h = let z : ◌≡◌ {A = ℕ} 0 1 = cc in absurd (omega arith)

chosen-direct : (machine : ℕ) (mingw : Bool) (e : Export) (c : ℕ) (cs : Bytes) → eqb machine arm64ec ≡ false → e.export_as ≡ none → e.import_name ≡ none
    → (n : Bool) → noname e ≡ n → Direct machine mingw e (c ∷ cs)
unfolding plan_public choose choose_named plan_choice
chosen-direct machine mingw e c cs a x i true n = record { type = 0; other = λ z. omega arith; planned = rw (n, a) }
chosen-direct machine mingw e c cs a x i false n =
    record { type = plain_type machine mingw (base e) e.name; other = plain-type-small machine mingw (base e) e.name; planned = rw (n, x, i, a) }

public-direct : (machine : ℕ) (mingw : Bool) (e : Export) (p : Bytes) → (length p ≡ 0 → ⊥) → eqb machine arm64ec ≡ false → e.export_as ≡ none → e.import_name ≡ none
    → Direct machine mingw e p
public-direct machine mingw e [] full a x i = absurd (full refl)
public-direct machine mingw e (c ∷ cs) full a x i = chosen-direct machine mingw e c cs a x i (noname e) refl

pub direct-plan : (machine : ℕ) (mingw : Bool) (e : Export) (p : Bytes) → direct machine e p ≡ true → Direct machine mingw e p
unfolding direct
direct-plan machine mingw e p h =
    let tests : List Bool = not (eqb (length p) 0) ∷ not (is_some e.export_as) ∷ not (is_some e.import_name) ∷ [] in
    let (native, (full, (exported, imported))) = and-each (not (eqb machine arm64ec)) tests h in
    public-direct machine mingw e p (eqb-false (length p) 0 (not-true _ full)) (not-true _ native) (some-none e.export_as exported) (some-none e.import_name imported)

-- what the test of a record is told
module _ (machine : ℕ) (b : Bytes) (k : ℕ) (p : Bytes) where
  pub direct-ec : machine ≡ arm64ec → false ≡ direct machine (export_at b k) p
  unfolding direct
  direct-ec m = rw (eq-eqb machine arm64ec m)

  module _ (m : machine ≡ arm64ec → ⊥) where
    pub direct-empty : length p ≡ 0 → false ≡ direct machine (export_at b k) p
    unfolding direct
    direct-empty z = rw (ne_eqb machine arm64ec m, z)

    module _ (full : length p ≡ 0 → ⊥) where
      pub direct-exported : absent_at b (field_at k 4) ≡ false → false ≡ direct machine (export_at b k) p
      unfolding direct export_at is_some
      direct-exported a = rw (ne_eqb machine arm64ec m, ne_eqb (length p) 0 full, string-some b (field_at k 4) a)

      pub direct-is : absent_at b (field_at k 4) ≡ true → {r : Bool} → r ≡ absent_at b (field_at k 3) → r ≡ direct machine (export_at b k) p
      unfolding direct export_at is_some
      direct-is a {r} e = rw (ne_eqb machine arm64ec m, ne_eqb (length p) 0 full, string-none b (field_at k 4) a) (e ∙ pick (absent_at b (field_at k 3)) refl)
        where
          pick : (t : Bool) → absent_at b (field_at k 3) ≡ t → t ≡ not (is_some (string_at b (field_at k 3)))
          pick true h = rw (string-none b (field_at k 3) h)
          pick false h = rw (string-some b (field_at k 3) h)

-- its size, whatever its type
direct-sized : (m o k t : ℕ) (s dll : Bytes) → (t ≡ 4 → ⊥) → length (encode (short m o k 1 s dll [])) ≡ length (encode (short m o k t s dll []))
direct-sized m o k t s dll n =
    let other : eqb t 4 ≡ false = ne_eqb t 4 n in
    length-encode-short m o k 1 s dll [] ∙ sym (rw other at (length-encode-short m o k t s dll []))

module _ (machine : ℕ) (mingw : Bool) (dll : Bytes) (es : List Export) (e : Export) (p : Bytes) (h : direct machine e p ≡ true) where
  the-plan : Direct machine mingw e p
  the-plan = direct-plan machine mingw e p h

  abbrev the-import : ℕ → Member
  the-import t = import_of machine e t p dll []

  now-is : the-import the-plan.type ∷ [] ≡ drawn false machine mingw dll es e (plan_public machine mingw e (some p))
  unfolding short_member
  now-is = rw the-plan.planned

  sized : length (encode (the-import 1)) ≡ length (encode (the-import the-plan.type))
  sized = direct-sized machine e.ordinal (kind e) the-plan.type p dll the-plan.other

  pub direct-later : {later : Bool} → later ≡ true → [] ≡ drawn later machine mingw dll es e (plan_public machine mingw e (some p))
  unfolding deferred_member
  direct-later l = rw (l, the-plan.planned)

  pub direct-room : {later : Bool} {entry at : ℕ} → later ≡ false → Room entry at (drawn later machine mingw dll es e (plan_public machine mingw e (some p)))
      → Room entry at (import_of machine e 1 p dll [] ∷ [])
  direct-room l r = room-sized (sym sized) (room-as (sym now-is) (rw l at r))

  pub direct-drew : {later : Bool} {l l' : Bytes} {entry at entry' at' : ℕ} → later ≡ false → length l ≡ 0 → Drew l entry at (import_of machine e 1 p dll [] ∷ []) l' entry' at'
      → Drew l entry at (drawn later machine mingw dll es e (plan_public machine mingw e (some p))) l' entry' at'
  direct-drew q z d = rw q (drew-as now-is (drew-sized z sized d))

-- ---- a record under its public name

module _ (machine : ℕ) (mingw later : Bool) (dll : Bytes) (es : List Export) (e : Export) (p : Bytes) {q : Plan} where
  module _ (s : Short) (h : planned e p (Ok (std.Some s)) ≡ q) where
    pub short-later : later ≡ true → [] ≡ drawn later machine mingw dll es e q
    unfolding planned short_of deferred_member
    short-later l = rw (l, ← h)

    pub short-now : later ≡ false
        → import_of machine e (type_number s.name_type) (if s.hashed then hash ∷ p else p) dll (source_of e p s.«export») ∷ [] ≡ drawn later machine mingw dll es e q
    unfolding planned short_of short_member
    short-now l = rw (l, ← h)

  pub deferred-now : planned e p (Ok std.None) ≡ q → later ≡ false → [] ≡ drawn later machine mingw dll es e q
  unfolding planned short_member
  deferred-now h l = rw (l, ← h)

  pub refused-either : (n : Reason) → planned e p (Err n) ≡ q → [] ≡ drawn later machine mingw dll es e q
  unfolding planned short_member deferred_member
  refused-either n h = rw (← h) (pick later)
    where
      pick : (l : Bool) → ◌≡◌ {A = List Member} [] (if l then [] else [])
      pick true = refl
      pick false = refl

pub deferred-later : (machine : ℕ) (mingw later : Bool) (dll : Bytes) (es : List Export) (b : Bytes) (k : ℕ) (p : Bytes) {q : Plan}
    → planned (export_at b k) p (Ok std.None) ≡ q → later ≡ true
    → alias_or_short machine mingw dll (export_at b k) p (bytes_at b (field_at k 3)) (last_answering machine mingw (bytes_at b (field_at k 3)) es) ≡ drawn later machine mingw dll es (export_at b k) q
unfolding planned deferred_member export_at
deferred-later machine mingw later dll es b k p h l =
    rw (l, ← h, string-get_or b (field_at k 3))

-- ---- a record

module _ (f : Export → List Member) (b : Bytes) (k : ℕ) where
  pub at-private : is_private (export_at b k) ≡ true → [] ≡ members_at f b k
  unfolding members_at
  at-private h = rw h

  pub at-shown : is_private (export_at b k) ≡ false → f (export_at b k) ≡ members_at f b k
  unfolding members_at
  at-shown h = rw h

none-later : (machine : ℕ) (mingw : Bool) (dll : Bytes) (es : List Export) (e : Export) (p : Plan) → is_deferred p ≡ false → [] ≡ deferred_member machine mingw dll es e p
unfolding deferred_member
none-later machine mingw dll es e (P.plain f t x) h = refl
none-later machine mingw dll es e (P.deferred p w) h = let z : ◌≡◌ {A = ℕ} 0 1 = cc in absurd (omega arith)
none-later machine mingw dll es e (P.refused n) h = refl

-- without an import_name there is nothing to write later
pub record-unnamed : (later : Bool) (machine : ℕ) (mingw : Bool) (dll : Bytes) (es : List Export) (b : Bytes) (k : ℕ) → later ≡ true → absent_at b (field_at k 3) ≡ true
    → [] ≡ record_members later machine mingw dll es b k
unfolding members_at plan
record-unnamed later machine mingw dll es b k l a = rw l (pick (is_private (export_at b k)) (none-later machine mingw dll es (export_at b k) (plan machine mingw (export_at b k)) (unnamed-now machine mingw (export_at b k) (import-absent b k a) (public_name (export_at b k)))))
  where
    pick : (t : Bool) → [] ≡ deferred_member machine mingw dll es (export_at b k) (plan machine mingw (export_at b k))
        → [] ≡ (if t then [] else deferred_member machine mingw dll es (export_at b k) (plan machine mingw (export_at b k)))
    pick true h = refl
    pick false h = h

module _ (later : Bool) (machine : ℕ) (mingw : Bool) (dll : Bytes) (es : List Export) (b : Bytes) (k : ℕ) (shown : is_private (export_at b k) ≡ false) where
  pub record-by : (q : Option Bytes) → public_name (export_at b k) ≡ q
      → drawn later machine mingw dll es (export_at b k) (plan_public machine mingw (export_at b k) q) ≡ record_members later machine mingw dll es b k
  unfolding plan
  record-by q e = let g = at-shown (λ (e : Export). drawn later machine mingw dll es e (plan machine mingw e)) b k shown in rw (← e) g

  pub record-11 : public_name (export_at b k) ≡ none → [] ≡ record_members later machine mingw dll es b k
  unfolding plan_public short_member deferred_member
  record-11 e = pick later ∙ record-by none e
    where
      pick : (l : Bool) → ◌≡◌ {A = List Member} [] (if l then [] else [])
      pick true = refl
      pick false = refl

-- ---- the records of a list

module _ (f : Export → List Member) (b : Bytes) where
  in-front : (k n : ℕ) → members_in f b k (suc n) ≡ members_at f b k ++ members_in f b (k + 1) n
  unfolding exports_from members_at join
  in-front k n = pick (is_private (export_at b k))
    where
      pick : (t : Bool) → join (map f (if t then exports_from b (k + 1) n else export_at b k ∷ exports_from b (k + 1) n))
          ≡ (if t then [] else f (export_at b k)) ++ join (map f (exports_from b (k + 1) n))
      pick true = refl
      pick false = refl

  -- in two parts
  in-parts : (k m n : ℕ) → members_in f b k (m + n) ≡ members_in f b k m ++ members_in f b (k + m) n
  unfolding exports_from join
  in-parts k zero n = let z : 0 + n ≡ n = omega arith in rw (z, add-zero k)
  in-parts k (suc m) n =
      let place : k + 1 + m ≡ k + suc m = omega arith in
      let count : suc m + n ≡ suc (m + n) = omega arith in
      ap (members_in f b k) count ∙ in-front k (m + n) ∙ ap (λ (l : List Member). members_at f b k ++ l) (in-parts (k + 1) m n)
      ∙ sym (append_assoc (members_at f b k) (members_in f b (k + 1) m) (members_in f b (k + 1 + m) n))
      ∙ ap₂ (λ (l : List Member) (i : ℕ). l ++ members_in f b i n) (sym (in-front k m)) place

  pub in-none : (k : ℕ) → [] ≡ members_in f b k (k - k)
  unfolding exports_from join
  in-none k = let z : k - k ≡ 0 = omega arith in rw z

  in-one : (k : ℕ) → members_in f b k 1 ≡ members_at f b k
  unfolding exports_from join
  in-one k = in-front k 0 ∙ append-nil (members_at f b k)

  module _ (from k : ℕ) (after : from ≤ k) where
    pub in-more : members_in f b from (k - from) ++ members_at f b k ≡ members_in f b from (k + 1 - from)
    in-more =
        let place : from + (k - from) ≡ k = omega arith in
        let count : k - from + 1 ≡ k + 1 - from = omega arith in
        ap (λ (l : List Member). members_in f b from (k - from) ++ l) (sym (in-one k) ∙ ap (λ (i : ℕ). members_in f b i 1) (sym place))
        ∙ sym (in-parts from (k - from) 1) ∙ ap (members_in f b from) count

    pub in-all : (to : ℕ) → k < to → (members_in f b from (k - from) ++ members_at f b k) ++ members_in f b (k + 1) (to - (k + 1)) ≡ members_in f b from (to - from)
    in-all to more =
        let place : from + (k + 1 - from) ≡ k + 1 = omega arith in
        let count : k + 1 - from + (to - (k + 1)) ≡ to - from = omega arith in
        ap₂ (λ (l : List Member) (i : ℕ). l ++ members_in f b i (to - (k + 1))) in-more (sym place)
        ∙ sym (in-parts from (k + 1 - from) (to - (k + 1))) ∙ ap (members_in f b from) count

  pub in-end : (from k to : ℕ) → k ≤ to → to ≤ k → members_in f b from (k - from) ≡ members_in f b from (to - from)
  in-end from k to h g = let e : k ≡ to = omega arith in rw e

  -- one record more is drawn
  module _ {from k to entry at : ℕ} (room : Room entry at (members_in f b from (to - from))) (after : from ≤ k) (more : k < to)
      {l l₁ : Bytes} {entry₁ at₁ : ℕ} (p : Drew l entry at (members_in f b from (k - from)) l₁ entry₁ at₁) where
    abbrev drawn-so-far : List Member
    drawn-so-far = members_in f b from (k - from)

    both-room : Room entry at (drawn-so-far ++ members_at f b k)
    both-room = room-first (drawn-so-far ++ members_at f b k) (members_in f b (k + 1) (to - (k + 1))) (room-as (sym (in-all from k after to more)) room)

    pub pass-room : Room entry₁ at₁ (members_at f b k)
    pass-room = room-next drawn-so-far (members_at f b k) both-room p

    pub pass-drew : {l₂ : Bytes} {entry₂ at₂ : ℕ} → Drew l₁ entry₁ at₁ (members_at f b k) l₂ entry₂ at₂ → Drew l entry at (members_in f b from (k + 1 - from)) l₂ entry₂ at₂
    pass-drew q = drew-as (in-more from k after) (drew-more (room-first drawn-so-far (members_at f b k) both-room).apart p q)

-- ---- a list: its short imports, then its deferred ones

module _ (machine : ℕ) (mingw : Bool) (dll b : Bytes) (from n : ℕ) where
  abbrev es : List Export
  es = exports_from b from n

  both-passes : pass_members false machine mingw dll es b from n ++ pass_members true machine mingw dll es b from n ≡ members_of machine mingw dll es
  unfolding members_of shorts deferreds
  both-passes = refl

  module _ {entry at : ℕ} (room : Room entry at (members_of machine mingw dll (exports_from b from n))) where
    pub list-first : Room entry at (pass_members false machine mingw dll (exports_from b from n) b from n)
    list-first = room-first _ (pass_members true machine mingw dll es b from n) (room-as (sym both-passes) room)

    module _ {l l₁ : Bytes} {entry₁ at₁ : ℕ} (p : Drew l entry at (pass_members false machine mingw dll (exports_from b from n) b from n) l₁ entry₁ at₁) where
      pub list-next : Room entry₁ at₁ (pass_members true machine mingw dll (exports_from b from n) b from n)
      list-next = room-next (pass_members false machine mingw dll es b from n) _ (room-as (sym both-passes) room) p

      pub list-drew : {l₂ : Bytes} {entry₂ at₂ : ℕ} → Drew l₁ entry₁ at₁ (pass_members true machine mingw dll (exports_from b from n) b from n) l₂ entry₂ at₂
          → Drew l entry at (members_of machine mingw dll (exports_from b from n)) l₂ entry₂ at₂
      list-drew q = drew-as both-passes (drew-more list-first.apart p q)
