-- Members read and in order, one after another: they are those of a member set.
use Rattle.std.specs.Prelude.{if◌then◌else◌}
use Prim.Native.Nat.{ℕ, zero, suc, ◌+◌, ◌-◌, ◌≤◌, ◌<◌}
use mathlib.Core.Path.{◌≡◌, refl, sym, ap, ap₂, ◌∙◌}
use mathlib.Core.Bool.{Bool, true, false, ◌&&◌}
use mathlib.Core.Option.{Option, none, some}
use mathlib.Core.List.{List}
use native.Mathlib.Nat.{sub-zero, add-zero, zero-add}
use native.Mathlib.Omega.{arith}
use lib.Dec.{eqb}
use borrow.Author.Tests.{eq-eqb, ne_eqb, eqb-true, eqb-false}
use Rattle.wire.specs.Bytes.{Bytes, part, is_some}
use Rattle.format.specs.Layouts.{Member}
use Rattle.format.specs.Reader.{read}
use Rattle.format.specs.Lookup.{Placed, offset_at, length_at, set_count, laid_out, place_first, read_from, rank, ordered, if_ordered, read_set}
use Rattle.lookup.specs.Numbered.{bytes_of, member_at, rank_of, next_rank, ranked_from}

-- ---- the rank after one

next-small : (r : ℕ) → r ≤ 3 → next_rank r ≤ 3
next-small r h = pick (eqb r 3) refl
  where
    pick : (t : Bool) → eqb r 3 ≡ t → (if t then 3 else r + 1) ≤ 3
    pick true e = omega arith
    pick false e = omega (arith, eqb-false r 3 e)

-- ---- one after another up to the n-th

module _ (b : Bytes) (n : ℕ) where
  module _ (r i : ℕ) where
    ranked-here : i < n → rank_of (member_at b i) ≡ r → ranked_from b r i (n - i) ≡ ranked_from b (next_rank r) (i + 1) (n - (i + 1))
    unfolding ranked_from
    ranked-here h e =
        let q : n - i ≡ suc (n - (i + 1)) = omega arith in
        ap (ranked_from b r i) q ∙ rw (eq-eqb (rank_of (member_at b i)) r e)

    pub ranked-next : {q : ℕ} → i < n → rank_of (member_at b i) ≡ r → q ≡ next_rank r → ranked_from b r i (n - i) ≡ ranked_from b q (i + 1) (n - (i + 1))
    ranked-next h e f = ranked-here h e ∙ ap (λ (q : ℕ). ranked_from b q (i + 1) (n - (i + 1))) (sym f)

    pub ranked-not : i < n → (rank_of (member_at b i) ≡ r → ⊥) → ranked_from b r i (n - i) ≡ false
    unfolding ranked_from
    ranked-not h e =
        let q : n - i ≡ suc (n - (i + 1)) = omega arith in
        ap (ranked_from b r i) q ∙ rw (ne_eqb (rank_of (member_at b i)) r e)

    pub ranked-end : n ≤ i → ranked_from b r i (n - i) ≡ true
    unfolding ranked_from
    ranked-end h =
        let q : n - i ≡ 0 = omega arith in
        ap (ranked_from b r i) q

-- ---- some members, and those after them

-- the rank after so many
unfoldable after : ℕ → ℕ → ℕ
after r zero = r
after r (suc k) = after (next_rank r) k

after-listed : (k : ℕ) → after 3 k ≡ 3
unfolding after
after-listed zero = refl
after-listed (suc k) = after-listed k

after-fixed : (k : ℕ) → 3 ≤ k → after 0 k ≡ 3
unfolding after
after-fixed zero h = absurd (omega arith)
after-fixed (suc zero) h = absurd (omega arith)
after-fixed (suc (suc zero)) h = absurd (omega arith)
after-fixed (suc (suc (suc k))) h = after-listed k

ranked-split : (b : Bytes) (r i k n m : ℕ) → m ≡ k + n → ranked_from b r i m ≡ (if ranked_from b r i k then ranked_from b (after r k) (i + k) n else false)
unfolding ranked_from after
ranked-split b r i zero n m e =
    let z : m ≡ n = omega arith in
    ap (ranked_from b r i) z ∙ ap (λ (j : ℕ). ranked_from b r j n) (sym (add-zero i))
ranked-split b r i (suc k) n zero e = absurd (omega arith)
ranked-split b r i (suc k) n (suc m) e = pick (eqb (rank_of (member_at b i)) r) (ranked-split b (next_rank r) (i + 1) k n m (omega arith))
  where
    pick : (t : Bool)
        → ranked_from b (next_rank r) (i + 1) m ≡ (if ranked_from b (next_rank r) (i + 1) k then ranked_from b (after (next_rank r) k) (i + 1 + k) n else false)
        → (if t then ranked_from b (next_rank r) (i + 1) m else false)
        ≡ (if (if t then ranked_from b (next_rank r) (i + 1) k else false) then ranked_from b (after (next_rank r) k) (i + suc k) n else false)
    pick true ih =
        let place : i + 1 + k ≡ i + suc k = omega arith in
        ih ∙ ap (λ (j : ℕ). if ranked_from b (next_rank r) (i + 1) k then ranked_from b (after (next_rank r) k) j n else false) place
    pick false ih = refl

-- ---- the members of a set

unfoldable is_ordered : ℕ → Option (List Placed) → Bool
is_ordered r none = false
is_ordered r (some ps) = ordered r ps

ranked-read : (b : Bytes) (r i n : ℕ) → r ≤ 3 → ranked_from b r i n ≡ is_ordered r (read_from b i n)
unfolding ranked_from read_from is_ordered ordered place_first member_at bytes_of rank_of
ranked-read b r i zero h = refl
ranked-read b r i (suc n) h =
    pick (read (part b (offset_at b i) (length_at b i))) (read_from b (i + 1) n) (ranked-read b (next_rank r) (i + 1) n (next-small r h))
  where
    unread : (later : Bool) (t : Bool) → eqb 4 r ≡ t → (if t then later else false) ≡ false
    unread later true e = absurd (omega (arith, eqb-true 4 r e))
    unread later false e = refl

    neither : (t : Bool) → (if t then false else false) ≡ false
    neither true = refl
    neither false = refl

    both : (t u : Bool) → (if t then u else false) ≡ (t && u)
    both true u = refl
    both false u = refl

    pick : (m : Option Member) (ps : Option (List Placed)) → ranked_from b (next_rank r) (i + 1) n ≡ is_ordered (next_rank r) ps
        → (if eqb (rank_of m) r then ranked_from b (next_rank r) (i + 1) n else false) ≡ is_ordered r (place_first (offset_at b i) m ps)
    pick none ps ih = unread (ranked_from b (next_rank r) (i + 1) n) (eqb 4 r) refl
    pick (some m) none ih = rw ih (neither (eqb (rank m) r))
    pick (some m) (some ps) ih = rw ih (both (eqb (rank m) r) (ordered (next_rank r) ps))

ordered-if : (o : Option (List Placed)) → is_ordered 0 o ≡ is_some (if_ordered o)
unfolding is_ordered if_ordered is_some
ordered-if none = refl
ordered-if (some ps) = pick (ordered 0 ps)
  where
    pick : (t : Bool) → t ≡ is_some (if t then some ps else none)
    pick true = refl
    pick false = refl

-- bytes laid out as a set are one where their members are in order
ordered-set : (b : Bytes) → laid_out b ≡ true → is_some (read_set b) ≡ ranked_from b 0 0 (set_count b)
unfolding read_set
ordered-set b l = rw l (sym (ranked-read b 0 0 (set_count b) (omega arith) ∙ ordered-if (read_from b 0 (set_count b))))

pub unlaid : (b : Bytes) → laid_out b ≡ false → is_some (read_set b) ≡ false
unfolding read_set is_some
unlaid b l = rw l

-- as the functions have it: all members looked at, or those before the f-th and those from it on
module _ (b : Bytes) (laid : laid_out b ≡ true) where
  pub set-whole : {t : Bool} {n : ℕ} → n ≡ set_count b → t ≡ ranked_from b 0 0 (n - 0) → is_some (read_set b) ≡ t
  set-whole e g = ordered-set b laid ∙ sym (g ∙ ap (ranked_from b 0 0) (sub-zero _ ∙ e))

  module _ (f : ℕ) (listed : 3 ≤ f) (inside : f ≤ set_count b) where
    set-parts : is_some (read_set b) ≡ (if ranked_from b 0 0 f then ranked_from b 3 f (set_count b - f) else false)
    set-parts =
        ordered-set b laid ∙ ranked-split b 0 0 f (set_count b - f) (set_count b) (omega arith)
        ∙ ap₂ (λ (r i : ℕ). if ranked_from b 0 0 f then ranked_from b r i (set_count b - f) else false) (after-fixed f listed) (zero-add f)

    pub set-unordered : ranked_from b 0 0 (f - 0) ≡ false → is_some (read_set b) ≡ false
    set-unordered e =
        let q : ranked_from b 0 0 f ≡ false = ap (ranked_from b 0 0) (sym (sub-zero f)) ∙ e in
        set-parts ∙ rw q

    pub set-by : {t : Bool} → ranked_from b 0 0 (f - 0) ≡ true → ranked_from b 3 f (set_count b - f) ≡ t → is_some (read_set b) ≡ t
    set-by e g =
        let q : ranked_from b 0 0 f ≡ true = ap (ranked_from b 0 0) (sym (sub-zero f)) ∙ e in
        set-parts ∙ rw q g

-- bytes that are a member set
pub record Valid (b : Bytes) : Type 0 where
  pub members : List Placed
  pub are : read_set b ≡ some members
  pub laid : laid_out b ≡ true
  pub read-as : read_from b 0 (set_count b) ≡ some members

pub valid : (b : Bytes) → is_some (read_set b) ≡ true → Valid b
unfolding read_set if_ordered is_some
valid b e = pick (laid_out b) refl (read_from b 0 (set_count b)) refl e
  where
    pick : (t : Bool) → laid_out b ≡ t → (o : Option (List Placed)) → read_from b 0 (set_count b) ≡ o
        → is_some (if t then if_ordered o else none) ≡ true → Valid b
    pick true l none q e = let z : ◌≡◌ {A = ℕ} 0 1 = cc in absurd (omega arith)
    pick true l (some ps) q e = kept (ordered 0 ps) refl e
      where
        kept : (u : Bool) → ordered 0 ps ≡ u → is_some (if u then some ps else none) ≡ true → Valid b
        kept true o e = record { members = ps; are = rw (l, q, o); laid = l; read-as = q }
        kept false o e = let z : ◌≡◌ {A = ℕ} 0 1 = cc in absurd (omega arith)
    pick false l o q e = let z : ◌≡◌ {A = ℕ} 0 1 = cc in absurd (omega arith)
