-- A set that is laid out: members back to back, and what is within it.
use Rattle.std.specs.Prelude.{if◌then◌else◌}
use Prim.Native.Nat.{ℕ, zero, suc, ◌+◌, ◌-◌, ◌≤◌, ◌<◌}
use mathlib.Core.Path.{◌≡◌, refl, sym, ap, ap₂, ◌∙◌}
use mathlib.Core.Bool.{Bool, true, false}
use mathlib.Core.List.{[], ◌∷◌}
use native.Mathlib.Nat.{sub-zero}
use native.Mathlib.Decide.{ℕ_discrete}
use native.Mathlib.Omega.{arith}
use lib.ListN.{length}
use lib.Dec.{eqb, leb}
use borrow.Author.Tests.{eq-eqb, ne_eqb, eqb-true, le-leb, lt-leb, leb-true}
use Rattle.wire.specs.Bytes.{Bytes, u32_at, part}
use Rattle.wire.proofs.Bytes.{and-each, length-part}
use Rattle.format.specs.Library.{first_member_at}
use Rattle.format.specs.Lookup.{offset_at, length_at, set_count, set_firsts, set_natives, back_to_back, laid_out}
use Rattle.lookup.specs.Numbered.{bytes_of}

-- ---- members back to back, one after another up to the n-th

module _ (b : Bytes) (n : ℕ) where
  pub back-start : (at : ℕ) → back_to_back b 0 at n ≡ back_to_back b 0 at (n - 0)
  back-start at = ap (back_to_back b 0 at) (sym (sub-zero n))

  module _ (i at : ℕ) where
    back-here : i < n → offset_at b i ≡ at → back_to_back b i at (n - i) ≡ back_to_back b (i + 1) (at + length_at b i) (n - (i + 1))
    unfolding back_to_back
    back-here h e =
        let q : n - i ≡ suc (n - (i + 1)) = omega arith in
        ap (back_to_back b i at) q ∙ rw (eq-eqb (offset_at b i) at e)

    pub back-next : {o k : ℕ} → i < n → o ≡ at → o ≡ offset_at b i → k ≡ length_at b i → back_to_back b i at (n - i) ≡ back_to_back b (i + 1) (at + k) (n - (i + 1))
    back-next h e f g = back-here h (sym f ∙ e) ∙ ap (λ (k : ℕ). back_to_back b (i + 1) (at + k) (n - (i + 1))) (sym g)

    pub back-elsewhere : i < n → (offset_at b i ≡ at → ⊥) → back_to_back b i at (n - i) ≡ false
    unfolding back_to_back
    back-elsewhere h e =
        let q : n - i ≡ suc (n - (i + 1)) = omega arith in
        ap (back_to_back b i at) q ∙ rw (ne_eqb (offset_at b i) at e)

    pub back-end : n ≤ i → back_to_back b i at (n - i) ≡ eqb at (length b)
    unfolding back_to_back
    back-end h =
        let q : n - i ≡ 0 = omega arith in
        ap (back_to_back b i at) q

-- what is true of members that are: the place they start at is within the set, and so is each of them
back-step : (b : Bytes) (i at n : ℕ) → back_to_back b i at (suc n) ≡ true → (offset_at b i ≡ at) × (back_to_back b (i + 1) (at + length_at b i) n ≡ true)
unfolding back_to_back
back-step b i at n e = pick (eqb (offset_at b i) at) refl e
  where
    pick : (t : Bool) → eqb (offset_at b i) at ≡ t → (if t then back_to_back b (i + 1) (at + length_at b i) n else false) ≡ true
        → (offset_at b i ≡ at) × (back_to_back b (i + 1) (at + length_at b i) n ≡ true)
    pick true q e = (eqb-true _ _ q, e)
    pick false q e = let z : ◌≡◌ {A = ℕ} 0 1 = cc in absurd (omega arith)

back-within : (b : Bytes) (i at n : ℕ) → back_to_back b i at n ≡ true → at ≤ length b
unfolding back_to_back
back-within b i at zero e = omega (arith, eqb-true at (length b) e)
back-within b i at (suc n) e = omega (arith, back-within b (i + 1) (at + length_at b i) n (back-step b i at n e).1)

back-member : (b : Bytes) (i at n j : ℕ) → back_to_back b i at n ≡ true → i ≤ j → j < i + n → offset_at b j + length_at b j ≤ length b
back-member b i at zero j e h k = absurd (omega arith)
back-member b i at (suc n) j e h k =
    let (here, later) = back-step b i at n e in
    pick here later (back-member b (i + 1) (at + length_at b i) n j later) (ℕ_discrete j i)
  where
    pick : offset_at b i ≡ at → back_to_back b (i + 1) (at + length_at b i) n ≡ true
        → (i + 1 ≤ j → j < i + 1 + n → offset_at b j + length_at b j ≤ length b) → Dec (j ≡ i) → offset_at b j + length_at b j ≤ length b
    pick here later ih (yes q) = rw q (omega (arith, here, back-within b (i + 1) (at + length_at b i) n later))
    pick here later ih (no q) = ih (omega (arith, q)) (omega arith)

-- ---- a set that is laid out

module _ (b : Bytes) (e : laid_out b ≡ true) where
  tests : (leb 16 (length b) ≡ true)
      × ((eqb (set_count b) (3 + set_firsts b + set_natives b) ≡ true)
      × ((eqb (u32_at b 12) (first_member_at (set_count b)) ≡ true) × (back_to_back b 0 (u32_at b 12) (set_count b) ≡ true)))
  unfolding laid_out
  tests =
      and-each (leb 16 (length b))
      (eqb (set_count b) (3 + set_firsts b + set_natives b) ∷ eqb (u32_at b 12) (first_member_at (set_count b)) ∷ back_to_back b 0 (u32_at b 12) (set_count b) ∷ []) e

  pub laid-header : 16 ≤ length b
  laid-header = leb-true 16 (length b) tests.0

  pub laid-count : set_count b ≡ 3 + set_firsts b + set_natives b
  laid-count = eqb-true (set_count b) (3 + set_firsts b + set_natives b) tests.1.0

  pub laid-directory : first_member_at (set_count b) ≤ length b
  laid-directory = omega (arith, eqb-true (u32_at b 12) (first_member_at (set_count b)) tests.1.1.0, back-within b 0 (u32_at b 12) (set_count b) tests.1.1.1)

  module _ (i : ℕ) (h : i < set_count b) where
    pub laid-entry : first_member_at (i + 1) ≤ length b
    laid-entry = omega (arith, laid-directory)

    pub laid-member : offset_at b i + length_at b i ≤ length b
    laid-member = back-member b 0 (u32_at b 12) (set_count b) i tests.1.1.1 (omega arith) (omega arith)

    pub length-bytes_of : length (bytes_of b i) ≡ length_at b i
    unfolding bytes_of
    length-bytes_of = length-part b (offset_at b i) (length_at b i) laid-member

    pub member-is : {r : Bytes} {o n : ℕ} → r ≡ part b o n → o ≡ offset_at b i → n ≡ length_at b i → (r ≡ bytes_of b i) × (offset_at b i + length r ≤ length b)
    unfolding bytes_of
    member-is {r} e f g =
        let q : r ≡ part b (offset_at b i) (length_at b i) = e ∙ ap₂ (part b) f g in
        (q, omega (arith, ap length q, length-bytes_of, laid-member))

-- the tests of it, one by one
module _ (b : Bytes) where
  pub no-header : length b < 16 → false ≡ laid_out b
  unfolding laid_out
  no-header h = rw (lt-leb 16 (length b) h)

  module _ (h : 16 ≤ length b) where
    pub no-count : (set_count b ≡ 3 + set_firsts b + set_natives b → ⊥) → false ≡ laid_out b
    unfolding laid_out
    no-count n = rw (le-leb 16 (length b) h, ne_eqb (set_count b) (3 + set_firsts b + set_natives b) n)

    module _ (c : set_count b ≡ 3 + set_firsts b + set_natives b) where
      pub no-first : (u32_at b 12 ≡ first_member_at (set_count b) → ⊥) → false ≡ laid_out b
      unfolding laid_out
      no-first n = rw (le-leb 16 (length b) h, eq-eqb (set_count b) (3 + set_firsts b + set_natives b) c, ne_eqb (u32_at b 12) (first_member_at (set_count b)) n)

      module _ (f : u32_at b 12 ≡ first_member_at (set_count b)) where
        by-back : back_to_back b 0 (u32_at b 12) (set_count b) ≡ laid_out b
        unfolding laid_out
        by-back = rw (le-leb 16 (length b) h, eq-eqb (set_count b) (3 + set_firsts b + set_natives b) c, eq-eqb (u32_at b 12) (first_member_at (set_count b)) f)

        pub laid-by : {t : Bool} → t ≡ back_to_back b 0 (u32_at b 12) (set_count b) → t ≡ laid_out b
        laid-by e = e ∙ by-back

        -- a directory past the end: no member ends there
        pub no-directory : length b < u32_at b 12 → false ≡ laid_out b
        no-directory k = laid-by (pick (back_to_back b 0 (u32_at b 12) (set_count b)) refl)
          where
            pick : (t : Bool) → back_to_back b 0 (u32_at b 12) (set_count b) ≡ t → false ≡ t
            pick true e = absurd (omega (arith, back-within b 0 (u32_at b 12) (set_count b) e))
            pick false e = refl
