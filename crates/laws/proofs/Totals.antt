-- An accepted list's total is below 2^32, and so is every size and offset in it.
use Rattle.std.specs.Prelude.{Ok, if◌then◌else◌}
use Prim.Native.Nat.{ℕ, zero, suc, ◌+◌, ◌*◌, ◌≤◌, ◌<◌}
use mathlib.Core.Path.{◌≡◌, refl}
use mathlib.Core.Logic.{⊎_elim}
use mathlib.Core.Bool.{Bool, true, false, not}
use mathlib.Core.Option.{Option, none, some}
use mathlib.Core.List.Memᴰ
use mathlib.Core.List.{List, [], ◌∷◌, ◌++◌, map, Memᴰ}
use native.Mathlib.Nat.{mul-suc}
use native.Mathlib.Omega.{arith}
use lib.ListN.{length, get_or, length-append, length-map, length-take}
use lib.Dec.{eqb, ltb, leb}
use Rattle.wire.specs.Bytes.{Bytes, Octets, join, last}
use Rattle.wire.proofs.Bytes.{and-first, and-next, and-each}
use Rattle.format.specs.Machines.{arm64x, known, wide, first_machine, native_machine}
use Rattle.format.specs.Names.{dot, up_to_dot, stem, barred_dll}
use Rattle.format.specs.Exports.{Export, dll_name, first_count, native_count, first_exports, native_exports}
use Rattle.format.specs.Plan.{Plan, plain, deferred, refused, kind, plan}
use Rattle.format.specs.Layouts.{Member, descriptor, null_descriptor, null_thunk, short, weak, slot_size, encode}
use Rattle.format.specs.Reader.{between, admits_dll, admits_stem, admits_export, ordinary, admits}
use Rattle.format.specs.Library.{Options, imp, final, last_answering, short_member, alias_members, alias_or_short, deferred_member, shorts, deferreds, members_of, fixed_members, first_members, native_members, all_members, first_member_at, directory, set_bytes, member_set}
use Rattle.format.specs.Refusals.{check_exports}
use Rattle.laws.proofs.Accepted.{Accepted, accepted, exports-few}
use Rattle.laws.proofs.Lengths.{length-encode-descriptor, length-encode-null_descriptor-none, length-encode-null_descriptor-some, length-encode-null_thunk, length-encode-short, length-encode-weak}
use Rattle.laws.proofs.ReadBack.{between-true, export-true}
use Rattle.laws.proofs.Members.{all-admitted}

-- ---- how many members a list has: at most two for each export

module _ (machine : ℕ) (mingw : Bool) (dll : Bytes) (es : List Export) where
  aliases-few : (e : Export) (t p : Bytes) → length (alias_members machine (kind e) t p) ≤ 2
  unfolding alias_members
  aliases-few e t p = pick (eqb (kind e) 0)
    where
      pick : (q : Bool) → length ((if q then weak machine t p ∷ [] else []) ++ weak machine (imp t) (imp p) ∷ []) ≤ 2
      pick true = omega arith
      pick false = omega arith

  alias-few : (e : Export) (p w : Bytes) (a : Option Export) → length (alias_or_short machine mingw dll e p w a) ≤ 2
  unfolding alias_or_short
  alias-few e p w none = omega arith
  alias-few e p w (some a) = aliases-few e (final (plan machine mingw a)) p

  export-few : (e : Export) (p : Plan) → length (short_member machine dll e p) + length (deferred_member machine mingw dll es e p) ≤ 2
  unfolding short_member deferred_member
  export-few e (plain f t x) = omega arith
  export-few e (deferred p w) = omega (arith, alias-few e p w (last_answering machine mingw w es))
  export-few e (refused n) = omega arith

  abbrev short_of : Export → List Member
  short_of e = short_member machine dll e (plan machine mingw e)

  abbrev deferred_of : Export → List Member
  deferred_of e = deferred_member machine mingw dll es e (plan machine mingw e)

  both-few : (xs : List Export) → length (join (map short_of xs)) + length (join (map deferred_of xs)) ≤ 2 * length xs
  unfolding join
  both-few [] = omega arith
  both-few (x ∷ xs) =
      omega (
        arith,
        both-few xs,
        export-few x (plan machine mingw x),
        length-append (short_of x) (join (map short_of xs)),
        length-append (deferred_of x) (join (map deferred_of xs)),
      )

  pub members-few : length (members_of machine mingw dll es) ≤ 2 * length es
  unfolding members_of shorts deferreds
  members-few = omega (arith, both-few es, length-append (shorts machine mingw dll es) (deferreds machine mingw dll es))

pub first-few : (o : Options) (b : Bytes) → Accepted o b → length (first_members o b) ≤ 8192
unfolding first_members first_exports
first-few o b a =
    omega (arith, members-few (first_machine o.machine) o.mingw (dll_name b) (first_exports b), exports-few b 0 (first_count b), a.shape.firsts)

pub native-few : (o : Options) (b : Bytes) → Accepted o b → length (native_members o b) ≤ 8192
unfolding native_members native_exports
native-few o b a =
    omega (arith, members-few (native_machine o.machine) o.mingw (dll_name b) (native_exports b), exports-few b (first_count b) (native_count b), a.shape.natives)

-- ---- the length of a set

pub length-directory : (at : ℕ) (ms : List Bytes) → length (directory at ms) ≡ 8 * length ms
unfolding directory
length-directory at [] = refl
length-directory at (m ∷ ms) = omega (arith, length-directory (at + length m) ms)

pub length-set_bytes : (firsts natives : ℕ) (ms : List Bytes) → length (set_bytes firsts natives ms) ≡ first_member_at (length ms) + length (join ms)
unfolding set_bytes join
length-set_bytes firsts natives ms =
    omega (arith, length-directory (first_member_at (3 + firsts + natives)) ms, length-append (directory (first_member_at (3 + firsts + natives)) ms) (join ms ++ []), length-append (join ms) [])

-- parts that are each at most so long
pub length-join-few : (limit : ℕ) (ms : List Bytes) → ((m : Bytes) → Memᴰ m ms → length m ≤ limit) → length (join ms) ≤ limit * length ms
unfolding join
length-join-few limit [] h = omega arith
length-join-few limit (m ∷ ms) h =
    let one = h m (Memᴰ.head refl) in
    let more = length-join-few limit ms (λ n i. h n (Memᴰ.tail i)) in
    omega (arith, length-append m (join ms), one, more, mul-suc limit (length ms))

-- ---- the length of an admitted member

abbrev pub max_member : ℕ
max_member = 16658

pub slot-small : (m : ℕ) → slot_size m ≤ 8
unfolding slot_size
slot-small m = pick (wide m)
  where
    pick : (t : Bool) → (if t then 8 else 4) ≤ 8
    pick true = omega arith
    pick false = omega arith

null-small : (m : ℕ) (s : Option Bytes) → admits_stem s ≡ true → length (encode (null_descriptor m s)) ≤ max_member
unfolding admits_stem
null-small m none e = omega (arith, length-encode-null_descriptor-none m)
null-small m (some s) e = let (l, h, c) = between-true 1 255 s e in omega (arith, length-encode-null_descriptor-some m s)

pub dll-few : (dll : Bytes) → admits_dll dll ≡ true → length dll ≤ 255
unfolding admits_dll
dll-few dll e = (between-true 1 255 dll (and-first (between 1 255 dll) (not (barred_dll dll)) e)).1

pub stem-short : (d : Bytes) → length (stem d) ≤ length d
unfolding stem up_to_dot
stem-short d = pick (last (λ i. eqb (get_or d i 0) dot) (length d))
  where
    pick : (i : Option ℕ) → length (up_to_dot d i) ≤ length d
    pick none = omega arith
    pick (some zero) = omega arith
    pick (some (suc i)) = omega (arith, length-take (suc i) d)

pub member-small : (m : Member) → admits m ≡ true → length (encode m) ≤ max_member
unfolding admits
member-small (descriptor m dll compat) e =
    pick compat (length-encode-descriptor m dll compat) (stem-short dll) (dll-few dll (and-next (ordinary m) (admits_dll dll) e))
  where
    pick : (t : Bool) {n : ℕ} → n ≡ 345 + length dll + 2 * length (stem dll) + (if t then length (stem dll) + 1 else 0) → length (stem dll) ≤ length dll → length dll ≤ 255 → n ≤ max_member
    pick true e s h = omega arith
    pick false e s h = omega arith
member-small (null_descriptor m s) e = null-small m s (and-next (ordinary m) (admits_stem s) e)
member-small (null_thunk m s) e =
    let (l, h, c) = between-true 1 255 s (and-next (ordinary m) (between 1 255 s) e) in
    omega (arith, length-encode-null_thunk m s, slot-small m)
member-small (short m o k t s dll x) e =
    let tests : List Bool = not (eqb m arm64x) ∷ ltb o 65536 ∷ leb k 2 ∷ leb t 4 ∷ between 1 8190 s ∷ admits_dll dll ∷ admits_export t x ∷ [] in
    let (machine, (not_x, (ordinal, (kinds, (types, (symbol, (name, exported))))))) = and-each (known m) tests e in
    pick (eqb t 4) (length-encode-short m o k t s dll x) (between-true 1 8190 s symbol).1 (dll-few dll name) (export-true t x exported).0
  where
    pick : (q : Bool) {n : ℕ} → n ≡ 22 + length s + length dll + (if q then length x + 1 else 0) → length s ≤ 8190 → length dll ≤ 255
        → length x ≤ (if q then 8190 else 0) → n ≤ max_member
    pick true e s h x = omega arith
    pick false e s h x = omega arith
member-small (weak m target alias) e =
    let (machine, (first, second)) = and-each (ordinary m) (between 1 8195 target ∷ between 1 8195 alias ∷ []) e in
    let (l, h, c) = between-true 1 8195 target first in
    let (l', h', c') = between-true 1 8195 alias second in
    omega (arith, length-encode-weak m target alias)

-- ---- the total

all-few : (o : Options) (b : Bytes) → Accepted o b → length (all_members o b) ≤ 16387
unfolding all_members fixed_members
all-few o b a =
    omega (
      arith,
      first-few o b a,
      native-few o b a,
      length-append (fixed_members o b ++ first_members o b) (native_members o b),
      length-append (fixed_members o b) (first_members o b),
    )

-- what stands in a mapped list is mapped from one of the list
mapped : (ms : List Member) (x : Bytes) (P : Bytes → Type 0) → ((m : Member) → Memᴰ m ms → P (encode m)) → Memᴰ x (map encode ms) → P x
mapped [] x P h i = absurd (Memᴰ.not-nil i)
mapped (m ∷ ms) x P h i =
    ⊎_elim (λ e. rw e (h m (Memᴰ.head refl))) (λ j. mapped ms x P (λ n k. h n (Memᴰ.tail k)) j) (Memᴰ.cases_cons i)

-- all members of an accepted list, and their bytes
pub members-small : (o : Options) (b : Bytes) → Octets b → check_exports o b ≡ Ok tt
    → (length (all_members o b) ≤ 16387) × (length (join (map encode (all_members o b))) ≤ max_member * 16387)
members-small o b small e =
    let ms = map encode (all_members o b) in
    let few : length (all_members o b) ≤ 16387 = all-few o b (accepted o b e) in
    let long : length (join ms) ≤ max_member * length ms =
    length-join-few max_member ms (λ x i. mapped (all_members o b) x (λ (y : Bytes). length y ≤ max_member) (λ m j. member-small m (all-admitted o b small e m j)) i) in
    (few, omega (arith, long, length-map (all_members o b) encode))

pub total-small : (o : Options) (b : Bytes) → Octets b → check_exports o b ≡ Ok tt → length (member_set o b) < 4294967296
unfolding member_set
total-small o b small e =
    let (few, long) = members-small o b small e in
    let ms = map encode (all_members o b) in
    omega (arith, few, long, length-map (all_members o b) encode, length-set_bytes (length (first_members o b)) (length (native_members o b)) ms)

joined : (before : List Bytes) (m : Bytes) (after : List Bytes) → length (join before) + length m ≤ length (join (before ++ m ∷ after))
unfolding join
joined [] m after = omega (arith, length-append m (join after))
joined (x ∷ before) m after =
    omega (arith, joined before m after, length-append x (join before), length-append x (join (before ++ m ∷ after)))

-- every member of a set lies within it: where it begins, and how long it is
pub member-within : (firsts natives : ℕ) (before : List Bytes) (m : Bytes) (after : List Bytes)
    → first_member_at (length (before ++ m ∷ after)) + length (join before) + length m ≤ length (set_bytes firsts natives (before ++ m ∷ after))
member-within firsts natives before m after =
    omega (arith, length-set_bytes firsts natives (before ++ m ∷ after), joined before m after)
