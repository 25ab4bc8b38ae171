-- Laws of the slot table, whatever the keys are, so long as a record has one key at most.
use Rattle.std.specs.Prelude.{if◌then◌else◌, None, Some}
use Rattle.std.specs.Prelude as std
use Rattle.std.proofs.Common.{◌≡◌, ℕ, zero, suc, ◌+◌, ◌-◌, ◌%◌, ◌<◌, ◌≤◌, Bool, true, false, ◌&&◌, ◌||◌, eqb, List, [], length, set, sym, refl, ap, ◌∙◌, arith, get_or-set_other, get_or-set_same, eq-eqb, ne_eqb, eqb-true}
use mathlib.Core.Bool.{false≢true}
use mathlib.Core.Option.{Option, none, some, none-ne-some}
use native.Mathlib.Decide.{dec_le}
use borrow.Author.Tests.{eqb-false}
use Rattle.wire.specs.Bytes.{Bytes, first}
use Rattle.laws.proofs.Names.{At, first-at}
use Rattle.plans.specs.Keys.{last_in}
use Rattle.search.proofs.Searches.{first-here, first-later}
use Rattle.keys.specs.Hash.{hash_of}
use Rattle.keys.specs.Slots.{slot_of, row_of, slot_at, holding, probe, Used, used_of, Within, ends, spot_at, spot_of, sought, Filled, Reached, Entered}
use Rattle.keys.specs.declared.Slot.{Slot}
use Rattle.keys.specs.declared.Spot.{Spot}
use Rattle.keys.specs.declared.Spot.TheVariants as S

-- ---- first and last

first-all : (q : ℕ → Bool) (k n : ℕ) → first q k n ≡ none → (i : ℕ) → k ≤ i → i < k + n → q i ≡ false
unfolding first
first-all q k zero e i a b = absurd (omega arith)
first-all q k (suc n) e i a b = pick (q k) refl e (λ f. first-all q (k + 1) n f i)
  where
    pick : (t : Bool) → q k ≡ t → (if t then some k else first q (k + 1) n) ≡ none → (first q (k + 1) n ≡ none → k + 1 ≤ i → i < k + 1 + n → q i ≡ false) → q i ≡ false
    pick true h e ih = absurd (none-ne-some k (sym e))
    pick false h e ih = side (dec_le (k + 1) i)
      where
        side : Dec (k + 1 ≤ i) → q i ≡ false
        side (yes c) = ih e c (omega arith)
        side (no c) = let is : k ≡ i = omega arith in rw (← is) h

first-before : (q : ℕ → Bool) (k n d : ℕ) → first q k n ≡ some d → (i : ℕ) → k ≤ i → i < d → q i ≡ false
unfolding first
first-before q k zero d e i a b = absurd (none-ne-some d e)
first-before q k (suc n) d e i a b = pick (q k) refl e (λ f. first-before q (k + 1) n d f i)
  where
    pick : (t : Bool) → q k ≡ t → (if t then some k else first q (k + 1) n) ≡ some d → (first q (k + 1) n ≡ some d → k + 1 ≤ i → i < d → q i ≡ false) → q i ≡ false
    pick true h e ih = let is : k ≡ d = cc in absurd (omega arith)
    pick false h e ih = side (dec_le (k + 1) i)
      where
        side : Dec (k + 1 ≤ i) → q i ≡ false
        side (yes c) = ih e c b
        side (no c) = let is : k ≡ i = omega arith in rw (← is) h

last-there : (q : ℕ → Bool) (k n i : ℕ) → last_in q k n ≡ some i → At q k (k + n) i
unfolding last_in
last-there q k zero i e = absurd (none-ne-some i e)
last-there q k (suc n) i e = pick (q (k + n)) refl e (last-there q k n i)
  where
    pick : (t : Bool) → q (k + n) ≡ t → (if t then some (k + n) else last_in q k n) ≡ some i → (last_in q k n ≡ some i → At q k (k + n) i) → At q k (k + suc n) i
    pick true h e ih =
        let is : k + n ≡ i = cc in
        record { from-on = omega arith; below = omega arith; holds-there = rw (← is) h }
    pick false h e ih =
        let a = ih e in
        record { from-on = a.from-on; below = omega (arith, a.below); holds-there = a.holds-there }

last-now : (q : ℕ → Bool) (k n : ℕ) → q (k + n) ≡ true → last_in q k (suc n) ≡ some (k + n)
unfolding last_in
last-now q k n h = rw h

last-still : (q : ℕ → Bool) (k n : ℕ) → q (k + n) ≡ false → last_in q k (suc n) ≡ last_in q k n
unfolding last_in
last-still q k n h = rw h

-- ---- slots

probe-small : (h d : ℕ) → probe h d < 8192
probe-small h d = omega arith

-- every slot is tried
probe-tried : (h s : ℕ) → s < 8192 → probe h ((s + 8192 - h % 8192) % 8192) ≡ s
probe-tried h s e = omega arith

-- ---- what a search finds

-- the record where a search ended
abbrev pub record_of : std.Option Spot → Option ℕ
record_of (Some (S.Free s)) = none
record_of (Some (S.Used s k)) = some k
record_of None = none

or-true : (x : Bool) → (x || true) ≡ true
or-true true = refl
or-true false = refl

and-second : (x y : Bool) → (x && y) ≡ true → y ≡ true
and-second true y h = h
and-second false y h = absurd (false≢true h)

module _ (p : Bytes → ℕ → Bool) (t : ℕ → Slot) (w : Bytes) (d : ℕ) where
  abbrev at : ℕ
  at = probe (hash_of w) d

  pub free-ends : (t at).state ≡ 0 → ends p t w d ≡ true
  unfolding ends
  free-ends e = rw (eq-eqb (t at).state 0 e)

  found-ends : (t at).hash ≡ hash_of w → p w (t at).«record» ≡ true → ends p t w d ≡ true
  unfolding ends
  found-ends e f = rw (eq-eqb (t at).hash (hash_of w) e, f) (or-true (eqb (t at).state 0))

  -- where it ends at a used slot, that has a record with the key
  ends-found : Used t at → ends p t w d ≡ true → p w (t at).«record» ≡ true
  unfolding ends
  ends-found u e = and-second (eqb (t at).hash (hash_of w)) (p w (t at).«record») (rw (ne_eqb (t at).state 0 u) at e)

  -- by the tests that the code makes
  pub ends-other : Used t at → ((t at).hash ≡ hash_of w → ⊥) → false ≡ ends p t w d
  unfolding ends
  ends-other u e = rw (ne_eqb (t at).state 0 u, ne_eqb (t at).hash (hash_of w) e)

  pub ends-same : Used t at → (t at).hash ≡ hash_of w → p w (t at).«record» ≡ ends p t w d
  unfolding ends
  ends-same u e = rw (ne_eqb (t at).state 0 u, eq-eqb (t at).hash (hash_of w) e)

  passed-used : ends p t w d ≡ false → Used t at
  passed-used e z = false≢true (sym e ∙ free-ends z)

-- a used slot has one of the records that were entered
pub record-old : (p : Bytes → ℕ → Bool) (from n : ℕ) (t : ℕ → Slot) → Entered p from n t → (s : ℕ) → s < 8192 → Used t s → (t s).«record» < from + n
record-old p from n t E s g u = let f = E.filled s g u in (last-there (p f.key) from n (t s).«record» f.latest).below

module _ (p : Bytes → ℕ → Bool) (one : (w v : Bytes) (k : ℕ) → p w k ≡ true → p v k ≡ true → w ≡ v)
    (from n : ℕ) (t : ℕ → Slot) (E : Entered p from n t) (w : Bytes) where
  abbrev here : ℕ → ℕ
  here d = probe (hash_of w) d

  -- a used slot whose record has the key has the last such record
  slot-latest : (s : ℕ) → s < 8192 → Used t s → p w (t s).«record» ≡ true → last_in (p w) from n ≡ some (t s).«record»
  slot-latest s h u e =
      let f = E.filled s h u in
      let same : f.key ≡ w = one f.key w (t s).«record» (last-there (p f.key) from n (t s).«record» f.latest).holds-there e in
      rw same at f.latest

  -- where the last such record was entered a search ends
  reached-ends : (i : ℕ) → last_in (p w) from n ≡ some i → (r : Reached t w i) → ends p t w r.after ≡ true
  reached-ends i e r =
      let s = here r.after in
      let f = E.filled s (probe-small (hash_of w) r.after) r.used in
      let has : p w (t s).«record» ≡ true = rw r.there (last-there (p w) from n i e).holds-there in
      let same : f.key ≡ w = one f.key w (t s).«record» (last-there (p f.key) from n (t s).«record» f.latest).holds-there has in
      found-ends p t w r.after (f.hashed ∙ ap hash_of same) has

  found : (o : Option ℕ) → first (ends p t w) 0 8192 ≡ o → (l : Option ℕ) → last_in (p w) from n ≡ l → record_of (spot_of t w o) ≡ l
  unfolding spot_at spot_of
  found none e none f = refl
  found none e (some i) f =
      let r = E.reached w i f in
      absurd (false≢true (sym (first-all (ends p t w) 0 8192 e r.after (omega arith) (omega (arith, r.near))) ∙ reached-ends i f r))
  found (some d) e l f = pick (eqb (t (here d)).state 0) refl l f
    where
      ended : ends p t w d ≡ true
      ended = (first-at (ends p t w) 0 8192 d e).holds-there

      taken : Used t (here d) → (l : Option ℕ) → last_in (p w) from n ≡ l → some (t (here d)).«record» ≡ l
      taken u l f = sym (slot-latest (here d) (probe-small (hash_of w) d) u (ends-found p t w d u ended)) ∙ f

      free : (t (here d)).state ≡ 0 → (l : Option ℕ) → last_in (p w) from n ≡ l → none ≡ l
      free z none f = refl
      free z (some i) f = absurd (side (dec_le r.after d))
        where
          r : Reached t w i
          r = E.reached w i f

          side : Dec (r.after ≤ d) → ⊥
          side (no c) = r.between d (omega arith) z
          side (yes c) = last-one (dec_le d r.after)
            where
              last-one : Dec (d ≤ r.after) → ⊥
              last-one (yes b) = let is : r.after ≡ d = omega arith in r.used (rw is z)
              last-one (no b) =
                  false≢true (sym (first-before (ends p t w) 0 8192 d e r.after (omega arith) (omega arith)) ∙ reached-ends i f r)

      pick : (q : Bool) → eqb (t (here d)).state 0 ≡ q → (l : Option ℕ) → last_in (p w) from n ≡ l → record_of (if q then Some (S.Free (here d)) else Some (S.Used (here d) (t (here d)).«record»)) ≡ l
      pick true g l f = free (eqb-true (t (here d)).state 0 g) l f
      pick false g l f = taken (eqb-false (t (here d)).state 0 g) l f

  pub finds : record_of (sought p t w) ≡ last_in (p w) from n
  finds = found (first (ends p t w) 0 8192) refl (last_in (p w) from n) refl

  -- by the code's answer
  pub found-last : {x : std.Option Spot} → x ≡ sought p t w → record_of x ≡ last_in (p w) from n
  found-last e = ap record_of e ∙ finds

  pub found-old : {s k : ℕ} → Some (S.Used s k) ≡ sought p t w → k < from + n
  found-old {s} {k} e = (last-there (p w) from n k (sym (found-last e))).below

-- ---- counting

used-all : (t : ℕ → Slot) (m : ℕ) → ((s : ℕ) → s < m → Used t s) → used_of t m ≡ m
unfolding used_of
used-all t zero h = refl
used-all t (suc m) h = rw (ne_eqb (t m).state 0 (h m (omega arith)), used-all t m (λ s g. h s (omega arith))) (omega arith)

-- while fewer records than slots were entered a search ends
pub room-left : (p : Bytes → ℕ → Bool) (from n : ℕ) (t : ℕ → Slot) (w : Bytes) → Entered p from n t → n < 8192 → first (ends p t w) 0 8192 ≡ none → ⊥
room-left p from n t w E h e = absurd (omega (arith, E.few, used-all t 8192 all))
  where
    all : (s : ℕ) → s < 8192 → Used t s
    all s g z =
        let d = (s + 8192 - hash_of w % 8192) % 8192 in
        passed-used p t w d (first-all (ends p t w) 0 8192 e d (omega arith) (omega arith)) (rw (probe-tried (hash_of w) s g) z)

-- ---- a record entered

-- a table changed at one place
module _ (t t' : ℕ → Slot) (s h k : ℕ) (here : t' s ≡ holding h k) (rest : (r : ℕ) → (r ≡ s → ⊥) → t' r ≡ t r) where
  state-same : (t' s).state ≡ 1
  state-same = ap (λ (x : Slot). x.state) here

  hash-same : (t' s).hash ≡ h
  hash-same = ap (λ (x : Slot). x.hash) here

  record-same : (t' s).«record» ≡ k
  record-same = ap (λ (x : Slot). x.«record») here

  module _ (r : ℕ) (other : r ≡ s → ⊥) where
    state-other : (t' r).state ≡ (t r).state
    state-other = ap (λ (x : Slot). x.state) (rest r other)

    hash-other : (t' r).hash ≡ (t r).hash
    hash-other = ap (λ (x : Slot). x.hash) (rest r other)

    record-other : (t' r).«record» ≡ (t r).«record»
    record-other = ap (λ (x : Slot). x.«record») (rest r other)

  -- what is used stays used
  used-kept : (r : ℕ) → Used t r → Used t' r
  used-kept r u = pick (eqb r s) refl
    where
      pick : (q : Bool) → eqb r s ≡ q → Used t' r
      pick true e z = let is : r ≡ s = eqb-true r s e in absurd (omega (arith, state-same, rw is at z))
      pick false e z = u (sym (state-other r (eqb-false r s e)) ∙ z)

  used-below : (m : ℕ) → m ≤ s → used_of t' m ≡ used_of t m
  unfolding used_of
  used-below zero g = refl
  used-below (suc m) g = rw (state-other m (λ e. absurd (omega arith)), used-below m (omega arith))

  used-more : (m : ℕ) → used_of t' m ≤ used_of t m + 1
  unfolding used_of
  used-more zero = omega arith
  used-more (suc m) = pick (eqb m s) refl (used-more m)
    where
      least : (q : Bool) → (if q then 0 else 1) ≤ 1
      least true = omega arith
      least false = omega arith

      pick : (q : Bool) → eqb m s ≡ q → used_of t' m ≤ used_of t m + 1
          → used_of t' m + (if eqb (t' m).state 0 then 0 else 1) ≤ used_of t m + (if eqb (t m).state 0 then 0 else 1) + 1
      pick true e ih =
          let is : m ≡ s = eqb-true m s e in
          omega (arith, used-below m (omega arith), least (eqb (t' m).state 0))
      pick false e ih = rw (state-other m (eqb-false m s e)) (omega arith)

module _ (p : Bytes → ℕ → Bool) (one : (w v : Bytes) (k : ℕ) → p w k ≡ true → p v k ≡ true → w ≡ v)
    (from n : ℕ) (t t' : ℕ → Slot) (E : Entered p from n t) (w : Bytes) (d : ℕ) (new : p w (from + n) ≡ true) (stops : first (ends p t w) 0 8192 ≡ some d)
    (put : t' (probe (hash_of w) d) ≡ holding (hash_of w) (from + n)) (rest : (r : ℕ) → (r ≡ probe (hash_of w) d → ⊥) → t' r ≡ t r) where
  abbrev s : ℕ
  s = probe (hash_of w) d

  small : s < 8192
  small = probe-small (hash_of w) d

  -- no other slot has the key
  only : (r : ℕ) → r < 8192 → Used t r → p w (t r).«record» ≡ true → r ≡ s
  unfolding spot_at spot_of
  only r g u e = pick (eqb (t s).state 0) refl (ap (λ (o : Option ℕ). record_of (spot_of t w o)) (sym stops) ∙ finds p one from n t E w ∙ slot-latest p one from n t E w r g u e)
    where
      pick : (q : Bool) → eqb (t s).state 0 ≡ q → record_of (if q then Some (S.Free s) else Some (S.Used s (t s).«record»)) ≡ some (t r).«record» → r ≡ s
      pick true z f = absurd (none-ne-some (t r).«record» f)
      pick false z f = let is : (t r).«record» ≡ (t s).«record» = cc in E.apart r s g small u (eqb-false (t s).state 0 z) is

  old : (r : ℕ) → r < 8192 → Used t r → (t r).«record» < from + n
  old = record-old p from n t E

  filled-next : (r : ℕ) → r < 8192 → Used t' r → Filled p from (suc n) t' r
  filled-next r g u = pick (eqb r s) refl
    where
      other : (r ≡ s → ⊥) → Filled p from (suc n) t' r
      other e =
          let before = state-other t t' s (hash_of w) (from + n) put rest r e in
          let v : Used t r = λ z. u (before ∙ z) in
          let f = E.filled r g v in
          record {
            key = f.key;
            hashed = hash-other t t' s (hash_of w) (from + n) put rest r e ∙ f.hashed;
            latest = last-still (p f.key) from n (not-new v f) ∙ f.latest ∙ ap some (sym (record-other t t' s (hash_of w) (from + n) put rest r e));
          }
        where
          not-new : Used t r → (f : Filled p from n t r) → p f.key (from + n) ≡ false
          not-new v f = side (p f.key (from + n)) refl
            where
              side : (q : Bool) → p f.key (from + n) ≡ q → q ≡ false
              side false h = refl
              side true h =
                  let same : f.key ≡ w = one f.key w (from + n) h new in
                  absurd (e (only r g v (rw (← same) (last-there (p f.key) from n (t r).«record» f.latest).holds-there)))

      pick : (q : Bool) → eqb r s ≡ q → Filled p from (suc n) t' r
      pick true e =
          let is : r ≡ s = eqb-true r s e in
          rw is (record {
            key = w;
            hashed = hash-same t t' s (hash_of w) (from + n) put rest;
            latest = last-now (p w) from n new ∙ ap some (sym (record-same t t' s (hash_of w) (from + n) put rest));
          })
      pick false e = other (eqb-false r s e)

  -- the record of a slot, by whether it is this one
  record-by : (r : ℕ) (q : Bool) → eqb r s ≡ q → (t' r).«record» ≡ (if q then from + n else (t r).«record»)
  record-by r true e = let is : r ≡ s = eqb-true r s e in rw is (record-same t t' s (hash_of w) (from + n) put rest)
  record-by r false e = record-other t t' s (hash_of w) (from + n) put rest r (eqb-false r s e)

  used-before : (r : ℕ) → eqb r s ≡ false → Used t' r → Used t r
  used-before r e u z = u (state-other t t' s (hash_of w) (from + n) put rest r (eqb-false r s e) ∙ z)

  apart-next : (r q : ℕ) → r < 8192 → q < 8192 → Used t' r → Used t' q → (t' r).«record» ≡ (t' q).«record» → r ≡ q
  apart-next r q g h u v e = pick (eqb r s) refl (eqb q s) refl
    where
      pick : (x : Bool) → eqb r s ≡ x → (y : Bool) → eqb q s ≡ y → r ≡ q
      pick true a true b = eqb-true r s a ∙ sym (eqb-true q s b)
      pick true a false b = absurd (omega (arith, e, record-by r true a, record-by q false b, old q h (used-before q b v)))
      pick false a true b = absurd (omega (arith, e, record-by r false a, record-by q true b, old r g (used-before r a u)))
      pick false a false b =
          E.apart r q g h (used-before r a u) (used-before q b v) (sym (record-by r false a) ∙ e ∙ record-by q false b)

  kept : (r : ℕ) → Used t r → Used t' r
  kept = used-kept t t' s (hash_of w) (from + n) put rest

  reached-next : (v : Bytes) (i : ℕ) → last_in (p v) from (suc n) ≡ some i → Reached t' v i
  reached-next v i e = pick (p v (from + n)) refl
    where
      newest : p v (from + n) ≡ true → Reached t' v i
      newest h =
          let same : v ≡ w = one v w (from + n) h new in
          let is : from + n ≡ i = let both : some (from + n) ≡ some i = sym (last-now (p v) from n h) ∙ e in cc in
          rw (same, ← is) (record {
            after = d;
            near = omega (arith, (first-at (ends p t w) 0 8192 d stops).below);
            used = λ z. absurd (omega (arith, state-same t t' s (hash_of w) (from + n) put rest, z));
            there = record-same t t' s (hash_of w) (from + n) put rest;
            between = λ c g. kept (probe (hash_of w) c) (passed-used p t w c (first-before (ends p t w) 0 8192 d stops c (omega arith) g));
          })

      earlier : p v (from + n) ≡ false → Reached t' v i
      earlier h =
          record {
            after = R.after;
            near = R.near;
            used = kept r R.used;
            there = record-other t t' s (hash_of w) (from + n) put rest r other ∙ R.there;
            between = λ c g. kept (probe (hash_of v) c) (R.between c g);
          }
        where
          before : last_in (p v) from n ≡ some i
          before = sym (last-still (p v) from n h) ∙ e

          R : Reached t v i
          R = E.reached v i before

          r : ℕ
          r = probe (hash_of v) R.after

          other : r ≡ s → ⊥
          other is =
              let u : Used t s = λ z. R.used (rw is z) in
              let has : p w (t s).«record» ≡ true = ends-found p t w d u (first-at (ends p t w) 0 8192 d stops).holds-there in
              let mine : p v (t s).«record» ≡ true = rw (← is, R.there) (last-there (p v) from n i before).holds-there in
              let same : v ≡ w = one v w (t s).«record» mine has in
              false≢true (sym h ∙ rw same new)

      pick : (q : Bool) → p v (from + n) ≡ q → Reached t' v i
      pick true h = newest h
      pick false h = earlier h

  -- the record was entered where the search ended
  pub entered-next : Entered p from (suc n) t'
  entered-next =
      record {
        filled = filled-next;
        apart = apart-next;
        reached = reached-next;
        few = omega (arith, used-more t t' s (hash_of w) (from + n) put rest 8192, E.few);
      }

-- a record without a key leaves the table as it is
pub entered-none : (p : Bytes → ℕ → Bool) (from n : ℕ) (t : ℕ → Slot) → Entered p from n t → ((w : Bytes) → p w (from + n) ≡ false) → Entered p from (suc n) t
entered-none p from n t E h =
    record {
      filled = λ s g u. let f = E.filled s g u in record { key = f.key; hashed = f.hashed; latest = last-still (p f.key) from n (h f.key) ∙ f.latest };
      apart = E.apart;
      reached = λ w i e. E.reached w i (sym (last-still (p w) from n (h w)) ∙ e);
      few = omega (arith, E.few);
    }

none-used : (t : ℕ → Slot) (m : ℕ) → ((s : ℕ) → s < m → (t s).state ≡ 0) → used_of t m ≡ 0
unfolding used_of
none-used t zero h = refl
none-used t (suc m) h = rw (eq-eqb (t m).state 0 (h m (omega arith)), none-used t m (λ s g. h s (omega arith)))

-- a table whose slots are all free
pub entered-clear : (p : Bytes → ℕ → Bool) (from : ℕ) (t : ℕ → Slot) → ((s : ℕ) → s < 8192 → (t s).state ≡ 0) → Entered p from 0 t
unfolding last_in
entered-clear p from t h =
    record {
      filled = λ s g u. absurd (u (h s g));
      apart = λ s r g q u v e. absurd (u (h s g));
      reached = λ w i e. absurd (none-ne-some i e);
      few = omega (arith, none-used t 8192 h);
    }

-- ---- a search, by the slots that the code takes out: at is the place, x the slot, h the hash

module _ (p : Bytes → ℕ → Bool) (t : ℕ → Slot) (w : Bytes) (d : ℕ) {h at : ℕ} {x : Slot} (e : h ≡ hash_of w) (f : at ≡ probe h d) (got : x ≡ t at) where
  place : at ≡ probe (hash_of w) d
  place = f ∙ ap (λ (h : ℕ). probe h d) e

  there : t (probe (hash_of w) d) ≡ x
  there = sym (got ∙ ap t place)

  state-there : (t (probe (hash_of w) d)).state ≡ x.state
  state-there = ap (λ (x : Slot). x.state) there

  hash-there : (t (probe (hash_of w) d)).hash ≡ x.hash
  hash-there = ap (λ (x : Slot). x.hash) there

  record-there : (t (probe (hash_of w) d)).«record» ≡ x.«record»
  record-there = ap (λ (x : Slot). x.«record») there

  module _ (so_far : first (ends p t w) 0 8192 ≡ first (ends p t w) d (8192 - d)) (more : d < 8192) where
    pub spot-free : x.state ≡ 0 → Some (S.Free at) ≡ sought p t w
    unfolding spot_at spot_of
    spot-free z =
        let is = state-there ∙ z in
        let stops = so_far ∙ first-here (ends p t w) d 8192 more (free-ends p t w d is) in
        ap (λ (s : ℕ). Some (S.Free s)) place ∙ sym (ap (spot_of t w) stops ∙ rw (eq-eqb (t (probe (hash_of w) d)).state 0 is))

    module _ (u : x.state ≡ 0 → ⊥) where
      used : Used t (probe (hash_of w) d)
      used z = u (sym state-there ∙ z)

      pub spot-old : (n : ℕ) → Within n t → x.«record» < n
      spot-old n within = rw (← record-there) (within (probe (hash_of w) d) (probe-small (hash_of w) d) used)

      pub spot-other : (x.hash ≡ h → ⊥) → first (ends p t w) 0 8192 ≡ first (ends p t w) (d + 1) (8192 - (d + 1))
      spot-other g = so_far ∙ first-later (ends p t w) d 8192 more (sym (ends-other p t w d used (λ q. g (sym hash-there ∙ q ∙ sym e))))

      module _ {r : Bool} (g : x.hash ≡ h) (k : r ≡ p w x.«record») where
        by-key : ends p t w d ≡ r
        by-key = sym (k ∙ ap (p w) (sym record-there) ∙ ends-same p t w d used (hash-there ∙ g ∙ e))

        pub spot-unlike : r ≡ false → first (ends p t w) 0 8192 ≡ first (ends p t w) (d + 1) (8192 - (d + 1))
        spot-unlike z = so_far ∙ first-later (ends p t w) d 8192 more (by-key ∙ z)

        pub spot-used : r ≡ true → Some (S.Used at x.«record») ≡ sought p t w
        unfolding spot_at spot_of
        spot-used z =
            let stops = so_far ∙ first-here (ends p t w) d 8192 more (by-key ∙ z) in
            rw (place, ← record-there) (sym (ap (spot_of t w) stops ∙ rw (ne_eqb (t (probe (hash_of w) d)).state 0 used)))

-- no slot is left to try
pub spot-full : (p : Bytes → ℕ → Bool) (t : ℕ → Slot) (w : Bytes) (d : ℕ) → first (ends p t w) 0 8192 ≡ first (ends p t w) d (8192 - d) → 8192 ≤ d → None ≡ sought p t w
unfolding first spot_of
spot-full p t w d so_far done =
    let z : 8192 - d ≡ 0 = omega arith in
    sym (ap (spot_of t w) (so_far ∙ ap (first (ends p t w) d) z))

-- the place where a search ended
abbrev pub place_in : std.Option Spot → Option ℕ
place_in (Some (S.Free s)) = some s
place_in (Some (S.Used s k)) = some s
place_in None = none

pub record Stopped (p : Bytes → ℕ → Bool) (t : ℕ → Slot) (w : Bytes) (s : ℕ) : Type 0 where
  pub after : ℕ
  pub stops : first (ends p t w) 0 8192 ≡ some after
  pub at : s ≡ probe (hash_of w) after

module _ (p : Bytes → ℕ → Bool) (t : ℕ → Slot) (w : Bytes) where
  place-by : (q : Bool) (s k : ℕ) → place_in (if q then Some (S.Free s) else Some (S.Used s k)) ≡ some s
  place-by true s k = refl
  place-by false s k = refl

  pub stopped : {x : std.Option Spot} {s : ℕ} → x ≡ sought p t w → place_in x ≡ some s → Stopped p t w s
  unfolding spot_at spot_of
  stopped {x} {s} e f = by (first (ends p t w) 0 8192) refl (ap place_in (sym e) ∙ f)
    where
      by : (o : Option ℕ) → first (ends p t w) 0 8192 ≡ o → place_in (spot_of t w o) ≡ some s → Stopped p t w s
      by none h z = absurd (none-ne-some s z)
      by (some d) h z =
          let both : some (probe (hash_of w) d) ≡ some s = sym (place-by (eqb (t (probe (hash_of w) d)).state 0) (probe (hash_of w) d) (t (probe (hash_of w) d)).«record») ∙ z in
          record { after = d; stops = h; at = let is : probe (hash_of w) d ≡ s = cc in sym is }

  pub unstopped : None ≡ sought p t w → first (ends p t w) 0 8192 ≡ none
  unfolding spot_at spot_of
  unstopped e = by (first (ends p t w) 0 8192) (ap place_in (sym e))
    where
      by : (o : Option ℕ) → place_in (spot_of t w o) ≡ none → o ≡ none
      by none z = refl
      by (some d) z = absurd (none-ne-some (probe (hash_of w) d) (sym z ∙ place-by (eqb (t (probe (hash_of w) d)).state 0) (probe (hash_of w) d) (t (probe (hash_of w) d)).«record»))

-- ---- rows

-- a row put at a place is its slot there, and all others stay
module _ (l l' : List (List ℕ)) (i : ℕ) (x : Slot) (inside : i < length l) (put : l' ≡ set l i (row_of x)) where
  pub put-here : slot_at l' i ≡ x
  put-here = ap (λ (l : List (List ℕ)). slot_at l i) put ∙ ap slot_of (get_or-set_same l i (row_of x) [] inside)

  pub put-other : (j : ℕ) → (j ≡ i → ⊥) → slot_at l' j ≡ slot_at l j
  put-other j e = ap (λ (l : List (List ℕ)). slot_at l j) put ∙ ap slot_of (get_or-set_other l i j (row_of x) [] e)

-- one slot more freed
pub free-next : (l l' : List (List ℕ)) (i : ℕ) (x : Slot) → i < length l → l' ≡ set l i (row_of x) → x.state ≡ 0
    → ((r : ℕ) → r < i → (slot_at l r).state ≡ 0) → (r : ℕ) → r < i + 1 → (slot_at l' r).state ≡ 0
free-next l l' i x inside put z h r g = pick (eqb r i) refl
  where
    pick : (q : Bool) → eqb r i ≡ q → (slot_at l' r).state ≡ 0
    pick true e = let is : r ≡ i = eqb-true r i e in rw is (ap (λ (x : Slot). x.state) (put-here l l' i x inside put) ∙ z)
    pick false e =
        let other = eqb-false r i e in
        ap (λ (x : Slot). x.state) (put-other l l' i x inside put r other) ∙ h r (omega arith)

-- a record inserted where the search for its key ended
pub insert-by : (p : Bytes → ℕ → Bool) → ((w v : Bytes) (k : ℕ) → p w k ≡ true → p v k ≡ true → w ≡ v) → (from k : ℕ) (l l' : List (List ℕ)) (w : Bytes) {h s : ℕ} {x : Slot}
    → h ≡ hash_of w → Stopped p (slot_at l) w s → 8192 ≤ length l → x ≡ holding h k → l' ≡ set l s (row_of x)
    → from ≤ k → p w k ≡ true → Entered p from (k - from) (slot_at l) → Entered p from (k + 1 - from) (slot_at l')
insert-by p one from k l l' w {h} {s} {x} e stop room is put g new E =
    let there : from + (k - from) ≡ k = omega arith in
    let next : suc (k - from) ≡ k + 1 - from = omega arith in
    let inside : s < length l = omega (arith, stop.at) in
    let held : slot_at l' (probe (hash_of w) stop.after) ≡ holding (hash_of w) (from + (k - from)) =
    ap (slot_at l') (sym stop.at) ∙ put-here l l' s x inside put ∙ is ∙ rw (there, e) in
    let entered = entered-next p one from (k - from) (slot_at l) (slot_at l') E w stop.after (rw there new) stop.stops held
    (λ r other. put-other l l' s x inside put r (λ z. other (z ∙ stop.at))) in
    rw next at entered

-- a record without a key passed over; the start; and the end
pub skip-by : (p : Bytes → ℕ → Bool) (from k : ℕ) (t : ℕ → Slot) → from ≤ k → Entered p from (k - from) t → ((w : Bytes) → p w k ≡ false) → Entered p from (k + 1 - from) t
skip-by p from k t g E h =
    let there : from + (k - from) ≡ k = omega arith in
    let next : suc (k - from) ≡ k + 1 - from = omega arith in
    let passed = entered-none p from (k - from) t E (λ w. rw there (h w)) in
    rw next at passed

pub clear-by : (p : Bytes → ℕ → Bool) (from : ℕ) (t : ℕ → Slot) → ((s : ℕ) → s < 8192 → (t s).state ≡ 0) → Entered p from (from - from) t
clear-by p from t h =
    let none : 0 ≡ from - from = omega arith in
    let start = entered-clear p from t h in
    rw none at start

pub all-by : (p : Bytes → ℕ → Bool) (from k to : ℕ) (t : ℕ → Slot) → k ≤ to → to ≤ k → Entered p from (k - from) t → Entered p from (to - from) t
all-by p from k to t g h E =
    let same : k ≡ to = omega arith in
    rw same at E

-- the records in the slots stand in the list
pub within-by : (p : Bytes → ℕ → Bool) (from k m : ℕ) (t : ℕ → Slot) → from ≤ k → k ≤ m → Entered p from (k - from) t → Within m t
within-by p from k m t g h E s small u = omega (arith, record-old p from (k - from) t E s small u)
