-- A written set is valid, and its two lists are the two lists written.
use Rattle.std.specs.Prelude.{Ok, if◌then◌else◌}
use Prim.Native.Nat.{ℕ, suc, ◌+◌, ◌*◌, ◌<◌}
use mathlib.Core.Path.{◌≡◌, refl, sym, ap, ◌∙◌}
use mathlib.Core.Logic.{⊎_elim}
use mathlib.Core.Bool.{Bool, true, false}
use mathlib.Core.Option.{Option, none, some}
use mathlib.Core.List.Memᴰ
use mathlib.Core.List.{List, [], ◌∷◌, ◌++◌, map, append-nil, append_assoc, Memᴰ}
use native.Mathlib.Nat.{add-zero}
use native.Mathlib.Omega.{arith}
use lib.ListN.{length, take, drop, length-append, length-map}
use lib.Seq.{drop-drop, drop_at, take_at}
use lib.Dec.{eqb}
use borrow.Author.Tests.{eq-eqb, le-leb}
use Rattle.wire.specs.Bytes.{Bytes, Octets, u32_at, part, join}
use Rattle.wire.proofs.Bytes.{drop-past, part-seam, u32_at-here, join-within}
use Rattle.format.specs.Exports.{Export, dll_name}
use Rattle.format.specs.Plan.{Plan, plain, deferred, refused, kind, plan}
use Rattle.format.specs.Layouts.{Member, weak, encode}
use Rattle.format.specs.Library.{Options, imp, final, last_answering, short_member, alias_members, alias_or_short, deferred_member, shorts, deferreds, members_of, fixed_members, first_members, native_members, all_members, set_header_size, entry_size, first_member_at, directory, set_bytes, member_set}
use Rattle.format.specs.Reader.{admits, read}
use Rattle.format.specs.Refusals.{check_exports}
use Rattle.format.specs.Lookup.{Placed, offset_at, length_at, set_count, set_firsts, set_natives, back_to_back, laid_out, place_first, read_from, rank, ordered, if_ordered, read_set, list_of}
use Rattle.format.specs.Demands.{ReadBack}
use Rattle.laws.proofs.ReadBack.{read-back}
use Rattle.laws.proofs.Members.{all-admitted}
use Rattle.laws.proofs.Totals.{length-directory, length-set_bytes, total-small}

-- members from a place on, back to back
unfoldable pub placed : ℕ → List Member → List Placed
placed at [] = []
placed at (m ∷ ms) = record { at = at; member = m } ∷ placed (at + length (encode m)) ms

pub placed-append : (at : ℕ) (ms ns : List Member) → placed at (ms ++ ns) ≡ placed at ms ++ placed (at + length (join (map encode ms))) ns
unfolding placed join
placed-append at [] ns = rw (add-zero at)
placed-append at (m ∷ ms) ns =
    let place : at + length (encode m) + length (join (map encode ms)) ≡ at + length (encode m ++ join (map encode ms))
    = omega (arith, length-append (encode m) (join (map encode ms))) in
    ap (λ (l : List Placed). record { at = at; member = m } ∷ l)
    (placed-append (at + length (encode m)) ms ns ∙ ap (λ (k : ℕ). placed (at + length (encode m)) ms ++ placed k ns) place)

pub length-placed : (at : ℕ) (ms : List Member) → length (placed at ms) ≡ length ms
unfolding placed
length-placed at [] = refl
length-placed at (m ∷ ms) = ap suc (length-placed (at + length (encode m)) ms)

pub placed-members : (at : ℕ) (ms : List Member) → map (λ (p : Placed). p.member) (placed at ms) ≡ ms
unfolding placed
placed-members at [] = refl
placed-members at (m ∷ ms) = ap (λ (l : List Member). m ∷ l) (placed-members (at + length (encode m)) ms)

-- ---- the members from the i-th on stand in the directory, and from a place to the end

pub record Laid (set : Bytes) (i at : ℕ) (ms : List Member) : Type 0 where
  pub rest : Bytes
  pub listed : drop (set_header_size + entry_size * i) set ≡ directory at (map encode ms) ++ rest
  pub there : drop at set ≡ join (map encode ms)
  pub ended : at + length (join (map encode ms)) ≡ length set
  pub small : length set < 4294967296

module _ (set : Bytes) (i at : ℕ) (m : Member) (ms : List Member) (l : Laid set i at (m ∷ ms)) where
  abbrev later : ℕ
  later = at + length (encode m)

  split : at + length (encode m) + length (join (map encode ms)) ≡ length set
  unfolding join
  split = omega (arith, l.ended, length-append (encode m) (join (map encode ms)))

  pub laid-next : Laid set (i + 1) (at + length (encode m)) ms
  unfolding directory join
  laid-next =
      let place : set_header_size + entry_size * (i + 1) ≡ set_header_size + entry_size * i + 8 = omega arith in
      record {
        rest = l.rest;
        listed = rw (place, ← drop-drop 8 (set_header_size + entry_size * i) set, l.listed);
        there = rw (add-zero (length (encode m))) at (drop-past set at (encode m) (join (map encode ms)) 0 l.there);
        ended = split;
        small = l.small;
      }

  pub laid-offset : offset_at set i ≡ at
  unfolding directory
  laid-offset = u32_at-here set (set_header_size + entry_size * i) at _ l.listed (omega (arith, split, l.small))

  pub laid-length : length_at set i ≡ length (encode m)
  unfolding directory
  laid-length =
      u32_at-here set (set_header_size + entry_size * i + 4) (length (encode m)) _
      (sym (drop-drop 4 (set_header_size + entry_size * i) set) ∙ ap (drop 4) l.listed) (omega (arith, split, l.small))

  pub laid-part : part set at (length (encode m)) ≡ encode m
  unfolding join
  laid-part = part-seam set at (encode m) (join (map encode ms)) l.there

pub back_to_back-laid : (set : Bytes) (i at : ℕ) (ms : List Member) → Laid set i at ms → back_to_back set i at (length ms) ≡ true
unfolding back_to_back join
back_to_back-laid set i at [] l = eq-eqb _ _ (here l.ended)
  where
    here : at + length (join (map encode [])) ≡ length set → at ≡ length set
    here e = sym (add-zero at) ∙ e
back_to_back-laid set i at (m ∷ ms) l =
    rw (eq-eqb _ _ (laid-offset set i at m ms l), laid-length set i at m ms l)
    (back_to_back-laid set (i + 1) (at + length (encode m)) ms (laid-next set i at m ms l))

pub read_from-laid : (set : Bytes) (i at : ℕ) (ms : List Member) → Laid set i at ms → ((m : Member) → Memᴰ m ms → admits m ≡ true)
    → read_from set i (length ms) ≡ some (placed at ms)
unfolding read_from placed place_first
read_from-laid set i at [] l a = refl
read_from-laid set i at (m ∷ ms) l a =
    let one : read (part set at (length (encode m))) ≡ some m = rw (laid-part set i at m ms l) (read-back m (a m (Memᴰ.head refl))) in
    rw (
      laid-offset set i at m ms l,
      laid-length set i at m ms l,
      one,
      read_from-laid set (i + 1) (at + length (encode m)) ms (laid-next set i at m ms l) (λ n j. a n (Memᴰ.tail j)),
    )

-- ---- a set's header

module _ (firsts natives : ℕ) (ms : List Member) (counted : length ms ≡ 3 + firsts + natives) (fits : length (set_bytes firsts natives (map encode ms)) < 4294967296) where
  abbrev set : Bytes
  set = set_bytes firsts natives (map encode ms)

  abbrev count : ℕ
  count = 3 + firsts + natives

  long : length set ≡ first_member_at count + length (join (map encode ms))
  long =
      let n : length (map encode ms) ≡ count = length-map ms encode ∙ counted in
      length-set_bytes firsts natives (map encode ms) ∙ ap (λ (k : ℕ). first_member_at k + length (join (map encode ms))) n

  pub set-count : set_count set ≡ count
  unfolding set_bytes join
  set-count = u32_at-here set 0 count _ refl (omega (arith, long, fits))

  pub set-firsts : set_firsts set ≡ firsts
  unfolding set_bytes join
  set-firsts = u32_at-here set 4 firsts _ refl (omega (arith, long, fits))

  pub set-natives : set_natives set ≡ natives
  unfolding set_bytes join
  set-natives = u32_at-here set 8 natives _ refl (omega (arith, long, fits))

  set_at : u32_at set 12 ≡ first_member_at count
  unfolding set_bytes join
  set_at = u32_at-here set 12 (first_member_at count) _ refl (omega (arith, long, fits))

  directed : drop set_header_size set ≡ directory (first_member_at count) (map encode ms) ++ (join (map encode ms) ++ [])
  unfolding set_bytes join
  directed = refl

  pub set-laid : Laid set 0 (first_member_at count) ms
  set-laid =
      record {
        rest = join (map encode ms) ++ [];
        listed = directed;
        there = there;
        ended = sym long;
        small = fits;
      }
    where
      there : drop (first_member_at count) set ≡ join (map encode ms)
      there =
          let d = directory (first_member_at count) (map encode ms) in
          let n : length d ≡ entry_size * count = length-directory (first_member_at count) (map encode ms) ∙ ap (λ (k : ℕ). 8 * k) (length-map ms encode ∙ counted) in
          sym (drop-drop (entry_size * count) set_header_size set) ∙ ap (drop (entry_size * count)) directed
          ∙ drop_at d (join (map encode ms) ++ []) (entry_size * count) n ∙ append-nil (join (map encode ms))

  pub set-laid_out : laid_out set ≡ true
  unfolding laid_out
  set-laid_out =
      let back : back_to_back set 0 (first_member_at count) count ≡ true = rw counted at (back_to_back-laid set 0 (first_member_at count) ms set-laid) in
      simp (
        le-leb set_header_size (length set) (omega (arith, long)),
        set-count,
        set-firsts,
        set-natives,
        eq-eqb count count refl,
        set_at,
        eq-eqb (first_member_at count) (first_member_at count) refl,
        back,
      )

  pub set-read : ((m : Member) → Memᴰ m ms → admits m ≡ true) → ordered 0 (placed (first_member_at count) ms) ≡ true
      → read_set set ≡ some (placed (first_member_at count) ms)
  unfolding read_set if_ordered
  set-read a o =
      let all : read_from set 0 count ≡ some (placed (first_member_at count) ms) = rw counted at (read_from-laid set 0 (first_member_at count) ms set-laid a) in
      rw (set-laid_out, set-count, all, o)

-- ---- the fixed three first in order, the rest short or weak

alias-ranked : (machine k : ℕ) (t p : Bytes) (m : Member) → Memᴰ m (alias_members machine k t p) → rank m ≡ 3
unfolding alias_members rank
alias-ranked machine k t p m i =
    ⊎_elim (λ j. unprefixed (eqb k 0) j) prefixed (Memᴰ.append_cases (if eqb k 0 then weak machine t p ∷ [] else []) i)
  where
    prefixed : Memᴰ m (weak machine (imp t) (imp p) ∷ []) → rank m ≡ 3
    prefixed j = rw (Memᴰ.eq_of_singleton j)

    unprefixed : (q : Bool) → Memᴰ m (if q then weak machine t p ∷ [] else []) → rank m ≡ 3
    unprefixed true j = rw (Memᴰ.eq_of_singleton j)
    unprefixed false j = absurd (Memᴰ.not-nil j)

module _ (machine : ℕ) (mingw : Bool) (dll : Bytes) (es : List Export) (m : Member) where
  short-ranked : (e : Export) (p : Plan) → Memᴰ m (short_member machine dll e p) → rank m ≡ 3
  unfolding short_member rank
  short-ranked e (plain f t x) i = rw (Memᴰ.eq_of_singleton i)
  short-ranked e (deferred p w) i = absurd (Memᴰ.not-nil i)
  short-ranked e (refused n) i = absurd (Memᴰ.not-nil i)

  or-short-ranked : (e : Export) (p w : Bytes) (a : Option Export) → Memᴰ m (alias_or_short machine mingw dll e p w a) → rank m ≡ 3
  unfolding alias_or_short rank
  or-short-ranked e p w none i = rw (Memᴰ.eq_of_singleton i)
  or-short-ranked e p w (some a) i = alias-ranked machine (kind e) (final (plan machine mingw a)) p m i

  deferred-ranked : (e : Export) (p : Plan) → Memᴰ m (deferred_member machine mingw dll es e p) → rank m ≡ 3
  unfolding deferred_member
  deferred-ranked e (plain f t x) i = absurd (Memᴰ.not-nil i)
  deferred-ranked e (deferred p w) i = or-short-ranked e p w (last_answering machine mingw w es) i
  deferred-ranked e (refused n) i = absurd (Memᴰ.not-nil i)

  pub list-ranked : Memᴰ m (members_of machine mingw dll es) → rank m ≡ 3
  unfolding members_of shorts deferreds
  list-ranked i =
      ⊎_elim
      (λ j.
      let w = join-within (λ (e : Export). short_member machine dll e (plan machine mingw e)) es m j in
      short-ranked w.of (plan machine mingw w.of) w.there)
      (λ j.
      let w = join-within (λ (e : Export). deferred_member machine mingw dll es e (plan machine mingw e)) es m j in
      deferred-ranked w.of (plan machine mingw w.of) w.there)
      (Memᴰ.append_cases (shorts machine mingw dll es) i)

rest-ordered : (at : ℕ) (ms : List Member) → ((m : Member) → Memᴰ m ms → rank m ≡ 3) → ordered 3 (placed at ms) ≡ true
unfolding ordered placed
rest-ordered at [] h = refl
rest-ordered at (m ∷ ms) h = rw (h m (Memᴰ.head refl)) (rest-ordered (at + length (encode m)) ms (λ n i. h n (Memᴰ.tail i)))

-- ---- the written set

module _ (o : Options) (b : Bytes) where
  abbrev imports : List Member
  imports = first_members o b ++ native_members o b

  imports-ranked : (m : Member) → Memᴰ m (first_members o b ++ native_members o b) → rank m ≡ 3
  unfolding first_members native_members
  imports-ranked m i = ⊎_elim (λ j. list-ranked _ o.mingw (dll_name b) _ m j) (λ j. list-ranked _ o.mingw (dll_name b) _ m j) (Memᴰ.append_cases (first_members o b) i)

  members-ordered : (at : ℕ) → ordered 0 (placed at (all_members o b)) ≡ true
  unfolding ordered placed all_members fixed_members rank
  members-ordered at = rest-ordered _ (first_members o b ++ native_members o b) imports-ranked

  members-counted : length (all_members o b) ≡ 3 + length (first_members o b) + length (native_members o b)
  unfolding all_members fixed_members
  members-counted =
      omega
      (arith, length-append (fixed_members o b ++ first_members o b) (native_members o b), length-append (fixed_members o b) (first_members o b))

  abbrev first_place : ℕ
  first_place = first_member_at (3 + length (first_members o b) + length (native_members o b))

  -- a written set is valid, and is its members at their places
  pub written-read : Octets b → check_exports o b ≡ Ok tt
      → read_set (member_set o b) ≡ some (placed (first_member_at (3 + length (first_members o b) + length (native_members o b))) (all_members o b))
  unfolding member_set
  written-read small e =
      set-read (length (first_members o b)) (length (native_members o b)) (all_members o b) members-counted (total-small o b small e)
      (all-admitted o b small e) (members-ordered first_place)

  pub written-laid : Octets b → check_exports o b ≡ Ok tt
      → Laid (member_set o b) 0 (first_member_at (3 + length (first_members o b) + length (native_members o b))) (all_members o b)
  unfolding member_set
  written-laid small e = set-laid (length (first_members o b)) (length (native_members o b)) (all_members o b) members-counted (total-small o b small e)

  pub written-firsts : Octets b → check_exports o b ≡ Ok tt → set_firsts (member_set o b) ≡ length (first_members o b)
  unfolding member_set
  written-firsts small e = set-firsts (length (first_members o b)) (length (native_members o b)) (all_members o b) members-counted (total-small o b small e)

  pub written-natives : Octets b → check_exports o b ≡ Ok tt → set_natives (member_set o b) ≡ length (native_members o b)
  unfolding member_set
  written-natives small e = set-natives (length (first_members o b)) (length (native_members o b)) (all_members o b) members-counted (total-small o b small e)

  -- the last half of demand 2
  pub read_back : Octets b → check_exports o b ≡ Ok tt → ReadBack o b
  read_back small e =
      record {
        back = λ m i. read-back m (all-admitted o b small e m i);
        members = rw (written-read small e) (ap some (placed-members first_place (all_members o b)));
        firsts = written-firsts small e;
        natives = written-natives small e;
        fits = total-small o b small e;
      }

-- ---- its two lists

-- a member's bytes stand at its place
pub record Stands (set : Bytes) (p : Placed) : Type 0 where
  pub rest : Bytes
  pub there : drop p.at set ≡ encode p.member ++ rest

pub placed-stands : (set : Bytes) (at : ℕ) (ms : List Member) (p : Placed) → drop at set ≡ join (map encode ms) → Memᴰ p (placed at ms) → Stands set p
unfolding placed join
placed-stands set at [] p e i = absurd (Memᴰ.not-nil i)
placed-stands set at (m ∷ ms) p e i =
    ⊎_elim
    (λ q. rw q (record { rest = join (map encode ms); there = e }))
    (λ j. placed-stands set (at + length (encode m)) ms p (rw (add-zero (length (encode m))) at (drop-past set at (encode m) (join (map encode ms)) 0 e)) j)
    (Memᴰ.cases_cons i)

-- a list of a set: its members, at places where their bytes stand
pub record Listed (set : Bytes) (number : ℕ) (ps : List Placed) (ms : List Member) : Type 0 where
  pub members : map (λ (p : Placed). p.member) (list_of set number ps) ≡ ms
  pub stand : (p : Placed) → Memᴰ p (list_of set number ps) → Stands set p

module _ (o : Options) (b : Bytes) (small : Octets b) (e : check_exports o b ≡ Ok tt) where
  abbrev place : ℕ
  place = first_member_at (3 + length (first_members o b) + length (native_members o b))

  abbrev place₁ : ℕ
  place₁ = place + length (join (map encode (fixed_members o b)))

  abbrev place₂ : ℕ
  place₂ = place + length (join (map encode (fixed_members o b ++ first_members o b)))

  abbrev fixed : List Placed
  fixed = placed place (fixed_members o b)

  abbrev firsts : List Placed
  firsts = placed place₁ (first_members o b)

  abbrev natives : List Placed
  natives = placed place₂ (native_members o b)

  parted : placed place (all_members o b) ≡ fixed ++ firsts ++ natives
  unfolding all_members
  parted =
      placed-append place (fixed_members o b ++ first_members o b) (native_members o b)
      ∙ ap (λ (l : List Placed). l ++ natives) (placed-append place (fixed_members o b) (first_members o b))

  fixed-three : length fixed ≡ 3
  unfolding fixed_members placed
  fixed-three = refl

  stand : (p : Placed) → Memᴰ p (fixed ++ firsts ++ natives) → Stands (member_set o b) p
  stand p i = placed-stands (member_set o b) place (all_members o b) p (written-laid o b small e).there (rw parted i)

  pub first-listed : Listed (member_set o b) 1 (placed place (all_members o b)) (first_members o b)
  unfolding list_of
  first-listed =
      let is : take (set_firsts (member_set o b)) (drop 3 (placed place (all_members o b))) ≡ firsts
      = rw (written-firsts o b small e, parted, append_assoc fixed firsts natives, drop_at fixed (firsts ++ natives) 3 fixed-three)
      (take_at firsts natives (length (first_members o b)) (length-placed place₁ (first_members o b))) in
      record {
        members = rw is (placed-members place₁ (first_members o b));
        stand = λ p i. stand p (Memᴰ.append_left natives (Memᴰ.append_right fixed (rw is at i)));
      }

  pub native-listed : Listed (member_set o b) 2 (placed place (all_members o b)) (native_members o b)
  unfolding list_of
  native-listed =
      let n : length (fixed ++ firsts) ≡ 3 + length (first_members o b)
      = omega (arith, length-append fixed firsts, fixed-three, length-placed place₁ (first_members o b)) in
      let is : drop (3 + set_firsts (member_set o b)) (placed place (all_members o b)) ≡ natives
      = rw (written-firsts o b small e, parted) (drop_at (fixed ++ firsts) natives (3 + length (first_members o b)) n) in
      record {
        members = rw is (placed-members place₂ (native_members o b));
        stand = λ p i. stand p (Memᴰ.append_right (fixed ++ firsts) (rw is at i));
      }
