-- Laws of the search for a pattern, place by place and byte by byte, and of its answer.
use Rattle.std.specs.Prelude.{None, Some}
use Rattle.std.specs.Prelude as std
use Prim.Native.Nat.{ℕ, zero, suc, ◌+◌, ◌-◌, ◌≤◌, ◌<◌}
use mathlib.Core.Path.{◌≡◌, refl, sym, ap, ◌∙◌}
use mathlib.Core.Bool.{Bool, true, false}
use mathlib.Core.Option.{Option, none, some}
use mathlib.Core.List.{[], ◌∷◌}
use native.Mathlib.Decide.{dec_le}
use native.Mathlib.Nat.{add-zero, sub-zero}
use native.Mathlib.Omega.{arith}
use lib.ListN.{length, get_or, take, drop, length-take, length-drop}
use Rattle.std.specs.List.{slice_get}
use Rattle.std.proofs.lemmas.List.{take_rest}
use Rattle.std.proofs.lemmas.Option.{slice_get_within, get_or_from_slice_get}
use lib.Seq.{get_or-take, get_or-drop}
use lib.Dec.{eqb}
use borrow.Author.Tests.{eqb-true, eqb-false}
use Rattle.wire.specs.Bytes.{Bytes, same, first, part, before}
use Rattle.wire.proofs.Bytes.{same-longer, same-later, same-stop, same-end, length-part}
use Rattle.wire.proofs.Parts.{length-before, before-here, before-later, before-end}
use Rattle.format.specs.Names.{occurs_at, find}
use Rattle.search.specs.Search.{place_of}

-- ---- first

-- of the places from i up to n
module _ (p : ℕ → Bool) (i n : ℕ) (h : i < n) where
  pub first-here : p i ≡ true → first p i (n - i) ≡ some i
  unfolding first
  first-here e =
      let q : n - i ≡ suc (n - (i + 1)) = omega arith in
      ap (first p i) q ∙ rw e

  pub first-later : p i ≡ false → first p i (n - i) ≡ first p (i + 1) (n - (i + 1))
  unfolding first
  first-later e =
      let q : n - i ≡ suc (n - (i + 1)) = omega arith in
      ap (first p i) q ∙ rw e

pub first-none : (p : ℕ → Bool) (i n : ℕ) → ((k : ℕ) → i ≤ k → p k ≡ false) → first p i n ≡ none
unfolding first
first-none p i zero h = refl
first-none p i (suc n) h = rw (h i (omega arith)) (first-none p (i + 1) n (λ k l. h k (omega arith)))

-- ---- find

-- a pattern, looked for from a place on
unfoldable pub find_from : Bytes → Bytes → ℕ → Option ℕ
find_from p s i = first (occurs_at p s) i (length s + 1 - i)

pub find-start : (p s : Bytes) → find_from p s 0 ≡ find p s
unfolding find_from find
find-start p s = ap (first (occurs_at p s) 0) (sub-zero (length s + 1))

pub find-here : (p s : Bytes) (i : ℕ) → i ≤ length s → same (part s i (length p)) p ≡ true → find_from p s i ≡ some i
unfolding find_from occurs_at
find-here p s i h e = first-here (occurs_at p s) i (length s + 1) (omega arith) e

pub find-later : (p s : Bytes) (i : ℕ) → i ≤ length s → same (part s i (length p)) p ≡ false → find_from p s i ≡ find_from p s (i + 1)
unfolding find_from occurs_at
find-later p s i h e = first-later (occurs_at p s) i (length s + 1) (omega arith) e

-- what is left is too short for it
pub find-short : (p s : Bytes) (i : ℕ) → i ≤ length s → length s < i + length p → find_from p s i ≡ none
unfolding find_from occurs_at part
find-short p s i l h =
    first-none (occurs_at p s) i (length s + 1 - i)
    (λ k m. same-longer (part s k (length p)) p (λ e. omega (arith, e, length-take (length p) (drop k s), length-drop k s)))

-- ---- the part that is compared with a pattern, byte by byte

pub get_or-part : (s : Bytes) (at n j : ℕ) → j < n → get_or (part s at n) j 0 ≡ get_or s (at + j) 0
unfolding part
get_or-part s at n j h = get_or-take n (drop at s) j 0 h ∙ get_or-drop at s j 0

module _ (p s : Bytes) (i j : ℕ) (h : j < length p) (k : i + length p ≤ length s) where
  pub agree-later : get_or s (i + j) 0 ≡ get_or p j 0
      → same (drop j (part s i (length p))) (drop j p) ≡ same (drop (j + 1) (part s i (length p))) (drop (j + 1) p)
  agree-later e =
      let l = length-part s i (length p) k in
      same-later (part s i (length p)) p j (omega arith) h (get_or-part s i (length p) j h ∙ e)

  pub agree-stop : (get_or s (i + j) 0 ≡ get_or p j 0 → ⊥) → same (drop j (part s i (length p))) (drop j p) ≡ false
  agree-stop e =
      let l = length-part s i (length p) k in
      same-stop (part s i (length p)) p j (omega arith) h (λ q. e (sym (get_or-part s i (length p) j h) ∙ q))

pub agree-end : (p s : Bytes) (i j : ℕ) → length p ≤ j → same (drop j (part s i (length p))) (drop j p) ≡ true
unfolding part
agree-end p s i j h = same-end (part s i (length p)) p j (omega (arith, length-take (length p) (drop i s))) h

-- ---- the first byte

part-some : (s : Bytes) (i n : ℕ) → 0 < n → i < length s → 0 < length (part s i n)
unfolding part
part-some s i n f h = omega (arith, length-take n (drop i s), length-drop i s)

first-differs : (p s : Bytes) (i : ℕ) → 0 < length p → i < length s → (get_or s i 0 ≡ get_or p 0 0 → ⊥) → same (part s i (length p)) p ≡ false
first-differs p s i full h e =
    let here : get_or (part s i (length p)) 0 0 ≡ get_or s i 0 = get_or-part s i (length p) 0 full ∙ ap (λ (k : ℕ). get_or s k 0) (add-zero i) in
    same-stop (part s i (length p)) p 0 (part-some s i (length p) full h) full (λ q. e (sym here ∙ q))

-- places that do not have the pattern's first byte are passed over
find-skip : (p s : Bytes) (n i : ℕ) → 0 < length p → length s ≤ i + n → i ≤ length s
    → find_from p s (i + length (before (get_or p 0 0) (drop i s))) ≡ find_from p s i
find-skip p s zero i full few inside = ap (find_from p s) (before-end (get_or p 0 0) s i (omega arith))
find-skip p s (suc n) i full few inside = side (dec_le (length s) i) (λ h. find-skip p s n (i + 1) full (omega arith) (omega arith))
  where
    next : Type 0
    next = find_from p s (i + 1 + length (before (get_or p 0 0) (drop (i + 1) s))) ≡ find_from p s (i + 1)

    one : i < length s → next → (t : Bool) → eqb (get_or s i 0) (get_or p 0 0) ≡ t → find_from p s (i + length (before (get_or p 0 0) (drop i s))) ≡ find_from p s i
    one h ih true e = ap (find_from p s) (before-here (get_or p 0 0) s i h (eqb-true _ _ e))
    one h ih false e =
        let other = eqb-false (get_or s i 0) (get_or p 0 0) e in
        ap (find_from p s) (before-later (get_or p 0 0) s i h other) ∙ ih ∙ sym (find-later p s i inside (first-differs p s i full h other))

    side : Dec (length s ≤ i) → (i < length s → next) → find_from p s (i + length (before (get_or p 0 0) (drop i s))) ≡ find_from p s i
    side (yes h) ih = ap (find_from p s) (before-end (get_or p 0 0) s i h)
    side (no h) ih = let k : i < length s = omega arith in one k (ih k) (eqb (get_or s i 0) (get_or p 0 0)) refl

-- a byte is found among the first bytes of a text, or where they end
pub before-taken : (c n : ℕ) (s : Bytes) {r : ℕ} → r ≡ length (before c (take n s)) → r ≤ n
before-taken c n s e = omega (arith, e, length-before c (take n s), length-take n s)

pub skip-inside : (c : ℕ) (s : Bytes) (i : ℕ) → i ≤ length s → i + length (before c (drop i s)) ≤ length s
skip-inside c s i h = omega (arith, length-before c (drop i s), length-drop i s)

-- after a skip to the pattern's first byte the pattern first stands where it did
pub skipped : (p s : Bytes) (i k : ℕ) {c : ℕ} → Some c ≡ slice_get p 0 → i ≤ length s → k ≡ i + length (before c (drop i s)) → find_from p s i ≡ find p s
    → find_from p s k ≡ find p s
skipped p s i k {c} g h e f =
    let head : get_or p 0 0 ≡ c = get_or_from_slice_get p 0 c 0 (sym g) in
    let skip : find_from p s (i + length (before c (drop i s))) ≡ find_from p s i =
    rw (sym head) (find-skip p s (length s) i (slice_get_within p 0 c (sym g)) (omega arith) h) in
    ap (find_from p s) e ∙ skip ∙ f

-- an empty pattern stands at 0
pub find-empty : (p s : Bytes) → None ≡ slice_get p 0 → find p s ≡ some 0
find-empty [] s e = sym (find-start [] s) ∙ find-here [] s 0 (omega arith) (agree-end [] s 0 0 (omega arith))
find-empty (x ∷ xs) s e = cc

-- ---- the answer of a search

pub place-at : (o : Option ℕ) (i : ℕ) → place_of o ≡ Some i → o ≡ some i
place-at none i e = cc
place-at (some j) i e = cc

pub place-nowhere : (o : Option ℕ) → place_of o ≡ None → o ≡ none
place-nowhere none e = refl
place-nowhere (some j) e = cc

-- what a search for the rest of a pattern found
module _ (p s : Bytes) (k : ℕ) {r : std.Option ℕ} (f : r ≡ place_of (find (take (length p - k) (drop k p)) s)) where
  pub find-rest : {i : ℕ} → r ≡ Some i → find (drop k p) s ≡ some i
  find-rest {i} e = ap (λ (q : Bytes). find q s) (sym (take_rest p k)) ∙ place-at (find (take (length p - k) (drop k p)) s) i (sym f ∙ e)

  pub find-rest-none : r ≡ None → find (drop k p) s ≡ none
  find-rest-none e = ap (λ (q : Bytes). find q s) (sym (take_rest p k)) ∙ place-nowhere (find (take (length p - k) (drop k p)) s) (sym f ∙ e)
