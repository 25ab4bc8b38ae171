-- Laws of the targets: what is stored record by record, and whether there is anything to store.
use Rattle.std.specs.Prelude.{if◌then◌else◌}
use Rattle.std.proofs.Common.{◌≡◌, ℕ, zero, suc, ◌+◌, ◌-◌, ◌<◌, ◌≤◌, Bool, true, false, eqb, List, length, get_or, set, sym, refl, ap, ◌∙◌, arith, get_or-set_other, get_or-set_same, eqb-true}
use mathlib.Core.Bool.{false≢true}
use mathlib.Core.Option.{Option, none, some}
use native.Mathlib.Decide.{dec_le}
use borrow.Author.Tests.{eqb-false}
use Rattle.wire.specs.Bytes.{Bytes}
use Rattle.format.specs.Exports.{field_at, absent_at, bytes_at}
use Rattle.plans.specs.Keys.{key_at, last_in}
use Rattle.keys.specs.Targets.{any_wanted, target_of, Resolved}

-- ---- whether there is an import_name

module _ (b : Bytes) (k to : ℕ) where
  pub wanted-here : k < to → absent_at b (field_at k 3) ≡ false → true ≡ any_wanted b k (to - k)
  unfolding any_wanted
  wanted-here h e =
      let more : to - k ≡ suc (to - (k + 1)) = omega arith in
      rw (more, e)

  pub wanted-later : k < to → absent_at b (field_at k 3) ≡ true → any_wanted b k (to - k) ≡ any_wanted b (k + 1) (to - (k + 1))
  unfolding any_wanted
  wanted-later h e =
      let more : to - k ≡ suc (to - (k + 1)) = omega arith in
      rw (more, e)

  pub wanted-end : to ≤ k → false ≡ any_wanted b k (to - k)
  unfolding any_wanted
  wanted-end h =
      let none_left : to - k ≡ 0 = omega arith in
      rw none_left

none-wanted : (b : Bytes) (k n : ℕ) → any_wanted b k n ≡ false → (i : ℕ) → k ≤ i → i < k + n → absent_at b (field_at i 3) ≡ true
unfolding any_wanted
none-wanted b k zero e i g h = absurd (omega arith)
none-wanted b k (suc n) e i g h = pick (absent_at b (field_at k 3)) refl e (λ f. none-wanted b (k + 1) n f i)
  where
    pick : (t : Bool) → absent_at b (field_at k 3) ≡ t → (if t then any_wanted b (k + 1) n else true) ≡ false
        → (any_wanted b (k + 1) n ≡ false → k + 1 ≤ i → i < k + 1 + n → absent_at b (field_at i 3) ≡ true) → absent_at b (field_at i 3) ≡ true
    pick false a e ih = absurd (false≢true (sym e))
    pick true a e ih = side (dec_le (k + 1) i)
      where
        side : Dec (k + 1 ≤ i) → absent_at b (field_at i 3) ≡ true
        side (yes c) = ih e c (omega arith)
        side (no c) = let is : k ≡ i = omega arith in rw (← is) a

-- nothing is asked for, so nothing is to be stored, of any part of the records
pub resolved-none : (machine : ℕ) (mingw : Bool) (b : Bytes) (start count from n : ℕ) (l : List ℕ) → any_wanted b start count ≡ false → start ≤ from → from + n ≤ start + count
    → Resolved machine mingw b from n l
resolved-none machine mingw b start count from n l e x y =
    let unwanted : (k : ℕ) → from ≤ k → k < from + n → absent_at b (field_at k 3) ≡ false → ⊥ = λ k g h a. false≢true (sym a ∙ none-wanted b start count e k (omega arith) (omega arith)) in
    record { held = λ k g h a. absurd (unwanted k g h a); each = λ k g h a. absurd (unwanted k g h a) }

-- ---- the targets of the records up to k, of those up to to

module _ (machine : ℕ) (mingw : Bool) (b : Bytes) (from to : ℕ) where
  -- what is stored for a record
  abbrev pub target : ℕ → ℕ
  target k = target_of (last_in (key_at machine mingw b (bytes_at b (field_at k 3))) from (to - from))

  -- the targets before k are stored
  abbrev pub Stored : ℕ → List ℕ → Type 0
  Stored k l = (i : ℕ) → from ≤ i → i < k → absent_at b (field_at i 3) ≡ false → get_or l i 0 ≡ target i

  pub target-of : (k : ℕ) {r : ℕ} {w : Bytes} → r ≡ target_of (last_in (key_at machine mingw b w) from (to - from)) → w ≡ bytes_at b (field_at k 3) → r ≡ target k
  target-of k e f = e ∙ ap (λ (w : Bytes). target_of (last_in (key_at machine mingw b w) from (to - from))) f

  pub stored-skip : (k : ℕ) (l : List ℕ) → absent_at b (field_at k 3) ≡ true → Stored k l → Stored (k + 1) l
  stored-skip k l a S i g h e = side (dec_le k i)
    where
      side : Dec (k ≤ i) → get_or l i 0 ≡ target i
      side (yes c) = let is : k ≡ i = omega arith in absurd (false≢true (sym e ∙ (rw is at a)))
      side (no c) = S i g (omega arith) e

  pub stored-next : (k : ℕ) (l : List ℕ) {v : ℕ} → k < length l → v ≡ target k → Stored k l → Stored (k + 1) (set l k v)
  stored-next k l {v} room is S i g h e = pick (eqb i k) refl
    where
      pick : (q : Bool) → eqb i k ≡ q → get_or (set l k v) i 0 ≡ target i
      pick true f = let same : i ≡ k = eqb-true i k f in rw same (get_or-set_same l k v 0 room ∙ is)
      pick false f =
          let other = eqb-false i k f in
          get_or-set_other l k i v 0 other ∙ S i g (omega arith) e

  pub stored-all : (k : ℕ) (l : List ℕ) → from ≤ to → to ≤ k → to ≤ length l → Stored k l → Resolved machine mingw b from (to - from) l
  stored-all k l g h room S = record { held = λ i a c e. omega arith; each = λ i a c e. S i a (omega arith) e }

-- a target stored later leaves the ones before
pub earlier-stays : (k j v : ℕ) (l : List ℕ) → j < k → get_or (set l k v) j 0 ≡ get_or l j 0
earlier-stays k j v l g = get_or-set_other l k j v 0 (λ e. absurd (omega arith))

-- ---- what a target tells

pub target-none : (o : Option ℕ) → ((i : ℕ) → o ≡ some i → i < 8192) → target_of o ≡ 65535 → o ≡ none
unfolding target_of
target-none none s e = refl
target-none (some i) s e = let small = s i refl in absurd (omega arith)

pub target-some : (o : Option ℕ) {t : ℕ} → t ≡ target_of o → (t ≡ 65535 → ⊥) → o ≡ some t
unfolding target_of
target-some none e n = absurd (n e)
target-some (some i) e n = ap some (sym e)
