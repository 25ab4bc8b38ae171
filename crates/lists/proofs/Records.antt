-- Laws of a record's fields, by the places that code computes; and that a checked list holds its records.
use Rattle.std.specs.Prelude.{Ok, is_some, IsSome, if◌then◌else◌}
use Rattle.std.specs.Prelude as std
use Rattle.std.specs.Borrow.{Bor}
use Prim.Native.Nat.{ℕ, zero, suc, ◌+◌, ◌*◌, ◌≤◌, ◌<◌}
use Rattle.std.specs.Prelude.{◌/◌, ◌%◌, ◌^◌, bit_and}
use Rattle.std.specs.Int.{bit_at}
use Rattle.std.proofs.lemmas.Nat.{pow_pos}
use Rattle.std.proofs.lemmas.Nat.Bits.{and_pow, bit_at-lt}
use mathlib.Core.Path.{◌≡◌, refl, sym, ap, ◌∙◌}
use mathlib.Core.Bool.{Bool, true, false, not}
use mathlib.Core.Logic.{◌⊎◌, inl, inr}
use mathlib.Core.Option.{Option, none, some, get_or}
use mathlib.Core.List.{[]}
use native.Mathlib.Omega.{arith}
use lib.ListN.{length, take, drop, length-drop}
use lib.Seq.{drop-drop, take_all}
use lib.Dec.{eqb}
use borrow.Author.Tests.{eq-eqb, ne_eqb}
use Rattle.wire.specs.Bytes.{Bytes, part, holds}
use Rattle.wire.proofs.Bytes.{not-true, holds-inside}
use Rattle.format.specs.Exports.{names_at, names_length, both_counts, offset_of, length_of, field_at, absent_at, bytes_at, string_at, export_at}
use Rattle.format.specs.Plan.{base}
use Rattle.format.specs.Refusals.{check_list}
use Rattle.format.specs.Shaped.{Shaped}
use Rattle.format.proofs.Strings.{string-get_or}
use Rattle.format.proofs.Listed.{listed, record-inside, names-inside, field-few, field-named, field-inside}
use Rattle.lists.specs.Held.{Held, is_clean, string_of}

-- ---- strings that may be absent

module _ (b : Bytes) (at : ℕ) {n o : ℕ} where
  -- by the words that stand there
  pub string-none : n ≡ length_of b at → o ≡ offset_of b at → n ≡ 0 → o ≡ 0 → none ≡ string_at b at
  unfolding string_at absent_at
  string-none f g z y = rw (← f, ← g, eq-eqb n 0 z, eq-eqb o 0 y)

  pub string-some : {from : ℕ} {p : Bytes} → n ≡ length_of b at → o ≡ offset_of b at → (n ≡ 0 × (o ≡ 0 → ⊥)) ⊎ (n ≡ 0 → ⊥)
      → from ≡ names_at b → p ≡ part b (from + o) n → some p ≡ string_at b at
  unfolding string_at absent_at bytes_at
  string-some f g (inl (z, y)) h q = rw (← f, ← g, eq-eqb n 0 z, ne_eqb o 0 y, ← h, q)
  string-some f g (inr z) h q = rw (← f, ← g, ne_eqb n 0 z, ← h, q)

module _ (b : Bytes) (at : ℕ) where
  pub string-there : {s : Bytes} → string_at b at ≡ some s → (absent_at b at ≡ false) × (s ≡ bytes_at b at)
  unfolding string_at
  string-there g = pick (absent_at b at) g
    where
      pick : {s : Bytes} (t : Bool) → (if t then none else some (bytes_at b at)) ≡ some s → (t ≡ false) × (s ≡ bytes_at b at)
      pick true g = cc
      pick false g = (refl, cc)

  -- by the code's answer
  pub absent-is : {r : std.Option (Bor Bytes)} → string_of r ≡ string_at b at → r ≡ std.None → absent_at b at ≡ true
  unfolding string_at
  absent-is e f = pick (absent_at b at) (sym e ∙ ap string_of f)
    where
      pick : (t : Bool) → (if t then none else some (bytes_at b at)) ≡ none → t ≡ true
      pick true g = refl
      pick false g = cc

  pub there-is : {r : std.Option (Bor Bytes)} {s : Bor Bytes} → string_of r ≡ string_at b at → r ≡ std.Some s → absent_at b at ≡ false
  there-is e f = (string-there (sym e ∙ ap string_of f)).0

  pub bytes-are : {r : std.Option (Bor Bytes)} {s : Bor Bytes} → string_of r ≡ string_at b at → r ≡ std.Some s → s.now ≡ bytes_at b at
  bytes-are e f = (string-there (sym e ∙ ap string_of f)).1

  pub string-is : {r : std.Option (Bor Bytes)} {s : Bor Bytes} → string_of r ≡ string_at b at → r ≡ std.Some s → some s.now ≡ string_at b at
  string-is e f = ap string_of (sym f) ∙ e

  -- where the code takes an absent one for empty
  pub bytes-or : (r : std.Option (Bor Bytes)) (d : Bor Bytes) {x : Bor Bytes} → string_of r ≡ string_at b at → x ≡ std.unwrap_or r d → d.now ≡ [] → x.now ≡ bytes_at b at
  bytes-or r d e f z = ap (λ (y : Bor Bytes). y.now) f ∙ pick r e ∙ string-get_or b at
    where
      pick : (q : std.Option (Bor Bytes)) → string_of q ≡ string_at b at → (std.unwrap_or q d).now ≡ get_or (string_at b at) []
      pick std.None g = z ∙ ap (λ (o : Option Bytes). get_or o []) g
      pick (std.Some s) g = ap (λ (o : Option Bytes). get_or o []) g

  -- by a test of it
  pub absent-by : (r : std.Option (Bor Bytes)) → string_of r ≡ string_at b at → is_some r ≡ false → absent_at b at ≡ true
  absent-by std.None e f = absent-is e refl
  absent-by (std.Some s) e f = cc

  pub there-by : (r : std.Option (Bor Bytes)) → string_of r ≡ string_at b at → is_some r ≡ true → absent_at b at ≡ false
  there-by std.None e f = cc
  there-by (std.Some s) e f = there-is {s = s} e refl

  pub none-by : (r : std.Option (Bor Bytes)) (t : Bool) → string_of r ≡ string_at b at → is_some r ≡ not t → t ≡ absent_at b at
  none-by r true e f = sym (absent-by r e f)
  none-by r false e f = sym (there-by r e f)

  pub some-there : (r : std.Option (Bor Bytes)) → string_of r ≡ string_at b at → absent_at b at ≡ false → IsSome r
  unfolding string_at
  some-there r e a = pick r (e ∙ rw a)
    where
      pick : (q : std.Option (Bor Bytes)) → string_of q ≡ some (bytes_at b at) → IsSome q
      pick std.None g = cc
      pick (std.Some s) g = refl

-- ---- names without NUL

-- what the names do not hold, no part of them holds
pub clean-part : (b : Bytes) (from o n : ℕ) → true ≡ is_clean b → from ≡ names_at b + o → holds 0 (part b from n) ≡ false
unfolding part
clean-part b from o n c e =
    let names = drop (names_at b) b in
    rw (e, ← drop-drop o (names_at b) b) (holds-inside 0 names o n (not-true (holds 0 names) (sym c)))

pub clean-names : (b : Bytes) (at n : ℕ) (r : Bool) → Shaped b → at ≡ names_at b → n ≡ names_length b → r ≡ holds 0 (part b at n) → not r ≡ is_clean b
unfolding part
clean-names b at n r s e f h =
    let long : length (drop (names_at b) b) ≤ n = omega (arith, length-drop (names_at b) b, s.ended) in
    ap not (h ∙ ap (holds 0) (ap (λ (k : ℕ). take n (drop k b)) e ∙ take_all n (drop (names_at b) b) long))

-- ---- strings

pub string-at : (b : Bytes) (at from n : ℕ) → from ≡ names_at b + offset_of b at → n ≡ length_of b at → part b from n ≡ bytes_at b at
unfolding bytes_at
string-at b at from n e f = rw (e, f)

-- ---- the flags

-- a bit that is tested by `&`
pub bit-set : (n k : ℕ) → (bit_and n (2 ^ k) ≡ 0 → ⊥) → eqb (n / 2 ^ k % 2) 1 ≡ true
bit-set n k h = pick (bit_at n k) (bit_at-lt n k) (and_pow n k)
  where
    pick : (x : ℕ) → x < 2 → bit_and n (2 ^ k) ≡ x * 2 ^ k → eqb x 1 ≡ true
    pick zero l e = absurd (h (omega (arith, e)))
    pick (suc zero) l e = refl
    pick (suc (suc x)) l e = absurd (omega (arith, l))

pub bit-clear : (n k : ℕ) → bit_and n (2 ^ k) ≡ 0 → eqb (n / 2 ^ k % 2) 1 ≡ false
bit-clear n k h = ne_eqb _ _ (λ g. let w = pow_pos k in let p : bit_at n k * 2 ^ k ≡ 1 * 2 ^ k = ap (λ (x : ℕ). x * 2 ^ k) g in omega (arith, and_pow n k, h, w, p))

pub bit-is : (n k : ℕ) → not (eqb (bit_and n (2 ^ k)) 0) ≡ eqb (n / 2 ^ k % 2) 1
bit-is n k = pick (bit_and n (2 ^ k)) refl
  where
    pick : (x : ℕ) → bit_and n (2 ^ k) ≡ x → not (eqb x 0) ≡ eqb (n / 2 ^ k % 2) 1
    pick zero e = sym (bit-clear n k e)
    pick (suc x) e = rw (ne_eqb (suc x) 0 (λ z. omega (arith, z))) (sym (bit-set n k (λ z. omega (arith, e, z))))

-- ---- the base

pub base-name : (b : Bytes) (k : ℕ) → absent_at b (field_at k 2) ≡ true → (export_at b k).name ≡ base (export_at b k)
unfolding export_at string_at
base-name b k e = rw e

pub base-symbol : (b : Bytes) (k : ℕ) → absent_at b (field_at k 2) ≡ false → bytes_at b (field_at k 2) ≡ base (export_at b k)
unfolding export_at string_at
base-symbol b k e = rw e

-- a record has a name
pub named : (b : Bytes) (k : ℕ) → Held b k → absent_at b (field_at k 0) ≡ false
unfolding absent_at
named b k h = rw (ne_eqb (length_of b (field_at k 0)) 0 (λ e. omega (arith, h.named, e)))

-- ---- a checked list holds its records

pub held : (b : Bytes) (k : ℕ) → check_list b ≡ Ok tt → k < both_counts b → Held b k
held b k e h =
    let l = listed b e in
    record {
      headed = l.shape.headed;
      counted = omega (arith, l.shape.firsts, l.shape.natives);
      inside = omega (arith, record-inside b l k h, names-inside b l);
      named = field-named b l k h;
      few = λ f g. field-few b l k f h g;
      strings = λ f g. field-inside b l k f h g;
    }
