-- Where a word, a string and a case of the list stand and end.
use Prim.Native.Nat.{ℕ, ◌+◌, ◌%◌, ◌≤◌, ◌<◌}
use mathlib.Core.Path.{◌≡◌, refl, sym, ap, subst, ◌∙◌}
use mathlib.Core.Bool.{Bool, true, false}
use mathlib.Core.List.{[]}
use lib.Dec.{eqb, leb}
use lib.ListN.{length}
use native.Mathlib.Omega.{arith}
use native.Mathlib.Numerals.{add-one}
use borrow.Author.Count.{below_more}
use borrow.Author.Tests.{le-leb, lt-leb, leb-true, leb-false, eqb-true, eqb-false, eq-eqb, ne_eqb}
use Rattle.wire.specs.Bytes.{Bytes, u32_at, part}
use Rattle.write_run.specs.declared.replay.Asked.{Asked}
use Rattle.write_run.specs.declared.replay.Kept.{Kept}
use Rattle.write_run.specs.Kept.{options, Agrees}
use Rattle.write_run.specs.Cases.{word_at, end_at, string_at, after_at, asked_at, list_at, answer_at, kept_at, set_at, next_at, guards, AgreesAt, case_at, AllAgree}

-- ---- words

pub word-here : (t : Bytes) (at r : ℕ) → at + 4 ≤ length t → r ≡ u32_at t at → r ≡ word_at t at
unfolding word_at
word-here t at r l e = rw (le-leb (at + 4) (length t) l, e)

pub word-none : (t : Bytes) (at : ℕ) → length t < at + 4 → 0 ≡ word_at t at
unfolding word_at
word-none t at l = rw (lt-leb (at + 4) (length t) l)

-- a word that is not 0 is all there
pub word-there : (t : Bytes) (at : ℕ) → (word_at t at ≡ 0 → ⊥) → at + 4 ≤ length t
word-there t at ne = by (leb (at + 4) (length t)) refl
  where
    by : (b : Bool) → leb (at + 4) (length t) ≡ b → at + 4 ≤ length t
    by true e = leb-true (at + 4) (length t) e
    by false e = absurd (ne (sym (word-none t at (leb-false (at + 4) (length t) e))))

-- ---- strings

pub string-here : (t s : Bytes) (at n : ℕ) → n ≡ word_at t at → at + 4 + n ≤ length t → s ≡ part t (at + 4) n → s ≡ string_at t at
unfolding string_at
string-here t s at n e l h = h ∙ ap (part t (at + 4)) e ∙ rw (le-leb (at + 4 + word_at t at) (length t) (omega (arith, e, l)))

pub string-none : (t s : Bytes) (at n : ℕ) → n ≡ word_at t at → length t < at + 4 + n → s ≡ [] → s ≡ string_at t at
unfolding string_at
string-none t s at n e l h = h ∙ rw (lt-leb (at + 4 + word_at t at) (length t) (omega (arith, e, l)))

pub after-here : (t : Bytes) (at n : ℕ) → n ≡ word_at t at → at + 4 + n ≤ length t → at + 4 + n ≡ after_at t at
unfolding after_at
after-here t at n e l = ap (λ (x : ℕ). at + 4 + x) e ∙ rw (le-leb (at + 4 + word_at t at) (length t) (omega (arith, e, l)))

pub after-none : (t : Bytes) (at n : ℕ) → n ≡ word_at t at → length t < at + 4 + n → length t + 1 ≡ after_at t at
unfolding after_at
after-none t at n e l = rw (lt-leb (at + 4 + word_at t at) (length t) (omega (arith, e, l)))

pub no-part : (t : Bytes) → part t 0 0 ≡ []
unfolding part
no-part t = refl

-- the place after a string is past each place before it
pub after-past : (t : Bytes) (x at : ℕ) → x ≤ length t → x ≤ at → x < after_at t at
after-past t x at l m = by (leb (end_at t at) (length t)) refl
  where
    by : (b : Bool) → leb (end_at t at) (length t) ≡ b → x < after_at t at
    by true e = omega (arith, after-here t at (word_at t at) refl (leb-true _ _ e), m)
    by false e = omega (arith, after-none t at (word_at t at) refl (leb-false _ _ e), l)

-- ---- cases

pub next-written : (t : Bytes) (at r : ℕ) → word_at t (answer_at t at + 4) ≡ 0 → r ≡ after_at t (answer_at t at + 8) → r ≡ next_at t at
unfolding next_at
next-written t at r e h = h ∙ rw (eq-eqb (word_at t (answer_at t at + 4)) 0 e)

pub next-refused : (t : Bytes) (at : ℕ) → (word_at t (answer_at t at + 4) ≡ 0 → ⊥) → answer_at t at + 8 ≡ next_at t at
unfolding next_at
next-refused t at e = rw (ne_eqb (word_at t (answer_at t at + 4)) 0 e)

-- cases get on, and none starts further than one past the end
pub next-past : (t : Bytes) (at : ℕ) → at < length t → at < next_at t at
next-past t at l = by (eqb (word_at t (answer_at t at + 4)) 0) refl
  where
    past : at < answer_at t at
    past = after-past t at (at + 8) (omega (arith, l)) (omega arith)

    by : (b : Bool) → eqb (word_at t (answer_at t at + 4)) 0 ≡ b → at < next_at t at
    by true e = omega (arith, next-written t at _ (eqb-true _ _ e) refl, after-past t at (answer_at t at + 8) (omega (arith, l)) (omega (arith, past)))
    by false e = omega (arith, next-refused t at (eqb-false _ _ e), past)

pub next-within : (t : Bytes) (at : ℕ) → (word_at t (answer_at t at + 4) ≡ 0 → ⊥) → next_at t at ≤ length t + 1
next-within t at ne = omega (arith, next-refused t at ne, word-there t (answer_at t at + 4) ne)

-- the place of each case is the one after the case before it
pub case-next : (t : Bytes) (at k r : ℕ) → at ≡ case_at t k → r ≡ next_at t at → r ≡ case_at t (k + 1)
unfolding case_at
case-next t at k r e h = h ∙ ap (next_at t) e ∙ sym (ap (case_at t) (add-one k))

pub case-first : (t : Bytes) → 4 ≡ case_at t 0
unfolding case_at
case-first t = refl

-- ---- what stands in a case

pub asked-at : (t : Bytes) (at : ℕ) {m f : ℕ} → m ≡ word_at t at → f ≡ word_at t (at + 4) → ◌≡◌ {A = Asked} (record { machine = m; mingw = eqb (f % 2) 1; compat = leb 2 f }) (asked_at t at)
asked-at t at e h = rw (e, h)

pub kept-at : (t : Bytes) (at : ℕ) {p n v : ℕ} → p ≡ answer_at t at → n ≡ word_at t (p + 4) → v ≡ word_at t p → ◌≡◌ {A = Kept} (record { number = n; value = v }) (kept_at t at)
kept-at t at e h g = rw (h, g, e)

pub agrees-at : (t : Bytes) (at : ℕ) {a : Asked} {k : Kept} {list set out : Bytes} {p : ℕ} → a ≡ asked_at t at → k ≡ kept_at t at → list ≡ list_at t at → p ≡ answer_at t at → set ≡ string_at t (p + 8) → out ≡ guards → Agrees (options a) list k set out → AgreesAt t at
agrees-at t at {a} {k} {list} {set} {out} ea ek el ep es eo h =
    let es2 : set ≡ set_at t at = es ∙ ap (λ (x : ℕ). string_at t (x + 8)) ep in
    subst (λ (x : Asked). Agrees (options x) (list_at t at) (kept_at t at) (set_at t at) guards) ea
    (subst (λ (x : Kept). Agrees (options a) (list_at t at) x (set_at t at) guards) ek
    (subst (λ (x : Bytes). Agrees (options a) x k (set_at t at) guards) el
    (subst (λ (x : Bytes). Agrees (options a) list k x guards) es2
    (subst (λ (x : Bytes). Agrees (options a) list k set x) eo h))))

-- of no cases all agree
pub all-none : (t : Bytes) → AllAgree t 0
all-none t k l = absurd (omega (arith, l))

-- with one case more all agree where it does and the others did
pub all-more : (t : Bytes) (at n d e : ℕ) → at ≡ case_at t n → (d ≡ 0 → AllAgree t n) → (e ≡ 0 → AgreesAt t at) → d + e ≡ 0 → AllAgree t (n + 1)
all-more t at n d e h all here z =
    below_more (λ (k : ℕ). AgreesAt t (case_at t k)) n (all (omega (arith, z))) (subst (λ (x : ℕ). AgreesAt t x) h (here (omega (arith, z))))
