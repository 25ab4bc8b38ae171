-- Laws of the DLL name: its stem, by the last dot, and what bars it.
use Rattle.std.specs.Prelude.{None, Some, if◌then◌else◌}
use Prim.Native.Nat.{ℕ, zero, suc, ◌-◌, ◌≤◌, ◌<◌}
use mathlib.Core.Path.{◌≡◌, refl, sym, ap, ◌∙◌}
use mathlib.Core.Bool.{Bool, true, false, ◌||◌}
use mathlib.Core.List.{[], ◌∷◌}
use mathlib.Core.Option.{none, some}
use native.Mathlib.Decide.{dec_le}
use native.Mathlib.Omega.{arith}
use Rattle.std.specs.List.{list_any}
use lib.ListN.{length, get_or, take}
use lib.Seq.{length-take-le, take_all}
use lib.Dec.{eqb}
use borrow.Author.Tests.{eq-eqb, ne_eqb}
use Rattle.wire.specs.Bytes.{Bytes, ascii, part, same, holds, last}
use Rattle.format.specs.Names.{dot, slash, backslash, colon, up_to_dot, stem, barred_dll}
use Rattle.wire.proofs.Bytes.{same-longer}
use Rattle.names.specs.Dll.{IsLastDot, Stem, separates}

-- ---- the last place

-- none of the first n has it
last-none : (p : ℕ → Bool) (n : ℕ) → ((k : ℕ) → k < n → p k ≡ false) → last p n ≡ none
unfolding last
last-none p zero h = refl
last-none p (suc n) h = rw (h n (omega arith)) (last-none p n (λ k l. h k (omega arith)))

-- a place has it, and none from there on
last-at : (p : ℕ → Bool) (n i : ℕ) → i < n → p i ≡ true → ((k : ℕ) → i < k → k < n → p k ≡ false) → last p n ≡ some i
unfolding last
last-at p zero i l e h = absurd (omega arith)
last-at p (suc n) i l e h = side (dec_le n i) (λ m. last-at p n i m e (λ k a b. h k a (omega arith)))
  where
    side : Dec (n ≤ i) → (i < n → last p n ≡ some i) → last p (suc n) ≡ some i
    side (yes m) ih = let q : n ≡ i = omega arith in rw (q, e)
    side (no m) ih = let o : i < n = omega arith in rw (h n o (omega arith)) (ih o)

-- ---- stem, by where the last dot stands

pub stem-none : (d : Bytes) → IsLastDot d None → Stem d (length d)
unfolding stem up_to_dot
stem-none d h =
    let q : stem d ≡ d = ap (up_to_dot d) (last-none (λ i. eqb (get_or d i 0) dot) (length d) (λ k l. ne_eqb _ _ (h k l))) in
    record { bytes = take_all (length d) d (omega arith) ∙ sym q; size = sym (ap length q) }

module _ (d : Bytes) (i : ℕ) (h : IsLastDot d (Some i)) where
  last-dot : last (λ j. eqb (get_or d j 0) dot) (length d) ≡ some i
  last-dot = last-at (λ j. eqb (get_or d j 0) dot) (length d) i h.0 (eq-eqb _ _ h.1) (λ k a b. ne_eqb _ _ (h.2 k a b))

  pub stem-first : i ≡ 0 → Stem d (length d)
  unfolding stem up_to_dot
  stem-first e =
      let q : stem d ≡ d = ap (up_to_dot d) (last-dot ∙ ap some e) in
      record { bytes = take_all (length d) d (omega arith) ∙ sym q; size = sym (ap length q) }

  pub stem-dot : 0 < i → Stem d i
  unfolding stem up_to_dot
  stem-dot e =
      let s : i ≡ suc (i - 1) = omega arith in
      let q : stem d ≡ take i d = ap (up_to_dot d) (last-dot ∙ ap some s) ∙ ap (λ (k : ℕ). take k d) (sym s) in
      record { bytes = sym q; size = sym (ap length q ∙ length-take-le i d (omega (arith, h.0))) }

-- the first bytes of the DLL name, as many as its stem has
pub stem-part : {s dll : Bytes} {n : ℕ} → s ≡ part dll 0 n → Stem dll n → s ≡ stem dll
unfolding part
stem-part e k = e ∙ k.bytes

-- ---- separated

-- one of the three bytes is held
separated-holds : (s : Bytes) → list_any separates s ≡ (if holds slash s then true else if holds backslash s then true else holds colon s)
unfolding holds
separated-holds [] = refl
separated-holds (x ∷ xs) = one (eqb x slash) (eqb x backslash) (eqb x colon) (holds slash xs) (holds backslash xs) (separated-holds xs)
  where
    one : (a b c p q : Bool) → list_any separates xs ≡ (if p then true else if q then true else holds colon xs)
        → ((a || b || c) || list_any separates xs) ≡ (if (if a then true else p) then true else if (if b then true else q) then true else if c then true else holds colon xs)
    one true b c p q ih = refl
    one false true c true q ih = refl
    one false true c false q ih = refl
    one false false true true q ih = refl
    one false false true false true ih = refl
    one false false true false false ih = refl
    one false false false p q ih = ih

-- ---- barred_dll

-- by the outcomes of its tests
pub barred-by : (s : Bytes) {a b : Bool} → same s (ascii ".") ≡ a → same s (ascii "..") ≡ b → barred_dll s ≡ (if a then true else if b then true else list_any separates s)
unfolding barred_dll
barred-by s e f = rw (e, f, separated-holds s)

-- a name longer than dots alone may be
pub barred-long : (s : Bytes) → 2 < length s → barred_dll s ≡ list_any separates s
barred-long s h = barred-by s (same-longer s (ascii ".") (λ e. absurd (omega arith))) (same-longer s (ascii "..") (λ e. absurd (omega arith)))
