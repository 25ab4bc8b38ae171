-- Laws of the name rules: how long names get, and that they hold no NUL where what they are made of holds none.
use Rattle.std.specs.Prelude.{if◌then◌else◌}
use Prim.Native.Nat.{ℕ, zero, suc, ◌+◌, ◌≤◌, ◌<◌}
use mathlib.Core.Path.{◌≡◌, refl, ap, ◌∙◌}
use mathlib.Core.Logic.{◌⊎◌, inl, inr, ⊎_elim}
use mathlib.Core.Bool.{Bool, true, false, ◌&&◌}
use mathlib.Core.Option.{Option, none, some, none-ne-some}
use mathlib.Core.List.{[], ◌∷◌, ◌++◌}
use native.Mathlib.Omega.{arith}
use lib.ListN.{length, take, drop, length-append, length-take, length-drop}
use lib.Dec.{eqb}
use borrow.Author.Tests.{ne_eqb, eqb-false}
use Rattle.wire.specs.Bytes.{Bytes, same, starts, holds, first, last, part, or_else}
use Rattle.wire.proofs.Bytes.{same-eq, holds-take, holds-drop, holds-neither}
use Rattle.format.specs.Names.{underscore, occurs_at, find, splice, replace_once, replace, tag, cut, demangle, question, hash}

-- ---- first and last

pub record At (p : ℕ → Bool) (from to i : ℕ) : Type 0 where
  pub from-on : from ≤ i
  pub below : i < to
  pub holds-there : p i ≡ true

pub first-at : (p : ℕ → Bool) (k n i : ℕ) → first p k n ≡ some i → At p k (k + n) i
unfolding first
first-at p k zero i e = absurd (none-ne-some i e)
first-at p k (suc n) i e = pick (p k) refl e (first-at p (k + 1) n i)
  where
    pick : (t : Bool) → p k ≡ t → (if t then some k else first p (k + 1) n) ≡ some i → (first p (k + 1) n ≡ some i → At p (k + 1) (k + 1 + n) i)
        → At p k (k + suc n) i
    pick true h e ih =
        let q : k ≡ i = cc in
        record { from-on = omega arith; below = omega arith; holds-there = rw (← q) h }
    pick false h e ih =
        let a = ih e in
        record { from-on = omega (arith, a.from-on); below = omega (arith, a.below); holds-there = a.holds-there }

pub last-at : (p : ℕ → Bool) (n i : ℕ) → last p n ≡ some i → At p 0 n i
unfolding last
last-at p zero i e = absurd (none-ne-some i e)
last-at p (suc n) i e = pick (p n) refl e (last-at p n i)
  where
    pick : (t : Bool) → p n ≡ t → (if t then some n else last p n) ≡ some i → (last p n ≡ some i → At p 0 n i) → At p 0 (suc n) i
    pick true h e ih =
        let q : n ≡ i = cc in
        record { from-on = omega arith; below = omega arith; holds-there = rw (← q) h }
    pick false h e ih =
        let a = ih e in
        record { from-on = omega arith; below = omega (arith, a.below); holds-there = a.holds-there }

-- ---- find

-- a pattern that is found lies within the string
pub find-within : (pattern s : Bytes) (i : ℕ) → find pattern s ≡ some i → i + length pattern ≤ length s
unfolding find occurs_at part
find-within pattern s i e =
    let a = first-at (occurs_at pattern s) 0 (length s + 1) i e in
    let q : length (take (length pattern) (drop i s)) ≡ length pattern = ap length (same-eq (take (length pattern) (drop i s)) pattern a.holds-there) in
    omega (arith, a.below, q, length-take (length pattern) (drop i s), length-drop i s)

-- ---- replace

pub splice-length : (s to r : Bytes) (n i : ℕ) → i + n ≤ length s → splice s n to (some i) ≡ some r → length r + n ≡ length s + length to
unfolding splice
splice-length s to r n i h e =
    let q : take i s ++ to ++ drop (i + n) s ≡ r = cc in
    omega (arith, ap length q, length-append (take i s ++ to) (drop (i + n) s), length-append (take i s) to, length-take i s, length-drop (i + n) s)

pub splice-clear : (s to r : Bytes) (n i : ℕ) → holds 0 s ≡ false → holds 0 to ≡ false → splice s n to (some i) ≡ some r → holds 0 r ≡ false
unfolding splice
splice-clear s to r n i h k e =
    let q : take i s ++ to ++ drop (i + n) s ≡ r = cc in
    rw (← q) (holds-neither 0 (take i s ++ to) (drop (i + n) s) (holds-neither 0 (take i s) to (holds-take 0 i s h) k) (holds-drop 0 (i + n) s h))

module _ (s from to r : Bytes) where
  pub replace_once-length : replace_once s from to ≡ some r → length r + length from ≡ length s + length to
  unfolding replace_once splice
  replace_once-length e = pick (find from s) refl e
    where
      pick : (i : Option ℕ) → find from s ≡ i → splice s (length from) to i ≡ some r → length r + length from ≡ length s + length to
      pick none f e = absurd (none-ne-some r e)
      pick (some i) f e = splice-length s to r (length from) i (find-within from s i f) e

  pub replace_once-clear : holds 0 s ≡ false → holds 0 to ≡ false → replace_once s from to ≡ some r → holds 0 r ≡ false
  unfolding replace_once splice
  replace_once-clear h k e = pick (find from s) e
    where
      pick : (i : Option ℕ) → splice s (length from) to i ≡ some r → holds 0 r ≡ false
      pick none e = absurd (none-ne-some r e)
      pick (some i) e = splice-clear s to r (length from) i h k e

pub starts-some : (c : ℕ) (s : Bytes) → starts c s ≡ true → 1 ≤ length s
unfolding starts
starts-some c [] e = let z : ◌≡◌ {A = ℕ} 0 1 = cc in omega arith
starts-some c (x ∷ xs) e = omega arith

-- a byte alone
pub same-one : (c : ℕ) (s : Bytes) → same s (c ∷ []) ≡ (starts c s && eqb (length s) 1)
unfolding same starts
same-one c [] = refl
same-one c (x ∷ []) = refl
same-one c (x ∷ y ∷ ys) = rw (ne_eqb (length (x ∷ y ∷ ys)) 1 (λ e. absurd (omega arith)))

-- the two ways in which a replacement comes about
pub replace-ways : (s from to r : Bytes) → replace s from to ≡ some r
    → (replace_once s from to ≡ some r) ⊎ ((starts underscore from ≡ true) × (starts underscore to ≡ true) × (replace_once s (drop 1 from) (drop 1 to) ≡ some r))
unfolding replace or_else
replace-ways s from to r e = pick (replace_once s from to) refl (starts underscore from) refl (starts underscore to) refl e
  where
    pick : (q : Option Bytes) → replace_once s from to ≡ q → (a : Bool) → starts underscore from ≡ a → (b : Bool) → starts underscore to ≡ b
        → or_else q (if a && b then replace_once s (drop 1 from) (drop 1 to) else none) ≡ some r
        → (replace_once s from to ≡ some r) ⊎ ((starts underscore from ≡ true) × (starts underscore to ≡ true) × (replace_once s (drop 1 from) (drop 1 to) ≡ some r))
    pick (some x) h a f b g e = inl (h ∙ e)
    pick none h true f true g e = inr (f, g, e)
    pick none h true f false g e = absurd (none-ne-some r e)
    pick none h false f b g e = absurd (none-ne-some r e)

-- replacing a name that is not empty gives less than base and replacement together
pub replace-length : (s from to r : Bytes) → 1 ≤ length from → replace s from to ≡ some r → length r + 1 ≤ length s + length to
replace-length s from to r h e =
    ⊎_elim
    (λ q. omega (arith, replace_once-length s from to r q))
    (λ q.
    omega (
      arith,
      starts-some underscore from q.0,
      starts-some underscore to q.1,
      replace_once-length s (drop 1 from) (drop 1 to) r q.2,
      length-drop 1 from,
      length-drop 1 to,
    ))
    (replace-ways s from to r e)

pub replace-clear : (s from to r : Bytes) → holds 0 s ≡ false → holds 0 to ≡ false → replace s from to ≡ some r → holds 0 r ≡ false
replace-clear s from to r h k e =
    ⊎_elim
    (λ q. replace_once-clear s from to r h k q)
    (λ q. replace_once-clear s (drop 1 from) (drop 1 to) r h (holds-drop 0 1 to k) q.2)
    (replace-ways s from to r e)

-- ---- demangle

-- something is left, since something follows the tag
pub cut-length : (s r : Bytes) (i : Option ℕ) → find tag s ≡ i → cut s i ≡ some r → (1 ≤ length r) × (length r ≤ length s)
unfolding cut
cut-length s r none f e = absurd (none-ne-some r e)
cut-length s r (some i) f e = pick (eqb (length s) (i + length tag)) refl e
  where
    pick : (t : Bool) → eqb (length s) (i + length tag) ≡ t → (if t then none else some (take i s ++ drop (i + length tag) s)) ≡ some r
        → (1 ≤ length r) × (length r ≤ length s)
    pick true h e = absurd (none-ne-some r e)
    pick false h e =
        let q : take i s ++ drop (i + length tag) s ≡ r = cc in
        let l = ap length q in
        let a = length-append (take i s) (drop (i + 3) s) in
        let t = length-take i s in
        let d = length-drop (i + 3) s in
        (omega (arith, l, a, t, d, find-within tag s i f, eqb-false (length s) (i + 3) h), omega (arith, l, a, t, d))

pub cut-clear : (s r : Bytes) (i : Option ℕ) → holds 0 s ≡ false → cut s i ≡ some r → holds 0 r ≡ false
unfolding cut
cut-clear s r none h e = absurd (none-ne-some r e)
cut-clear s r (some i) h e = pick (eqb (length s) (i + length tag)) e
  where
    pick : (t : Bool) → (if t then none else some (take i s ++ drop (i + length tag) s)) ≡ some r → holds 0 r ≡ false
    pick true e = absurd (none-ne-some r e)
    pick false e =
        let q : take i s ++ drop (i + length tag) s ≡ r = cc in
        rw (← q) (holds-neither 0 (take i s) (drop (i + length tag) s) (holds-take 0 i s h) (holds-drop 0 (i + length tag) s h))

-- the ways in which a name is demangled
demangle-ways : (s r : Bytes) → demangle s ≡ some r → ((2 ≤ length s) × (drop 1 s ≡ r)) ⊎ (cut s (find tag s) ≡ some r)
unfolding demangle
demangle-ways s r e = pick (starts hash s) refl (eqb (length s) 1) refl (starts question s) (rw (same-one hash s) at e)
  where
    pick : (a : Bool) → starts hash s ≡ a → (l : Bool) → eqb (length s) 1 ≡ l → (b : Bool)
        → (if a && l then none else if a then some (drop 1 s) else if b then cut s (find tag s) else none) ≡ some r
        → ((2 ≤ length s) × (drop 1 s ≡ r)) ⊎ (cut s (find tag s) ≡ some r)
    pick true h true l b e = absurd (none-ne-some r e)
    pick true h false l b e = inl (omega (arith, starts-some hash s h, eqb-false (length s) 1 l), cc)
    pick false h l m true e = inr e
    pick false h l m false e = absurd (none-ne-some r e)

-- a demangled name is never empty
pub demangle-length : (s r : Bytes) → demangle s ≡ some r → (1 ≤ length r) × (length r ≤ length s)
demangle-length s r e =
    ⊎_elim
    (λ q. let l = ap length q.1 in let d = length-drop 1 s in (omega (arith, l, d, q.0), omega (arith, l, d)))
    (λ q. cut-length s r (find tag s) refl q)
    (demangle-ways s r e)

pub demangle-clear : (s r : Bytes) → holds 0 s ≡ false → demangle s ≡ some r → holds 0 r ≡ false
demangle-clear s r h e =
    ⊎_elim (λ q. rw (← q.1) (holds-drop 0 1 s h)) (λ q. cut-clear s r (find tag s) h q) (demangle-ways s r e)
