-- What a kept answer says, and what a comparison with it tells.
use Rattle.std.specs.Prelude.{Ok, Err}
use Prim.Native.Nat.{ℕ, ◌-◌}
use mathlib.Core.Path.{◌≡◌, sym, ap, ap₂, ◌∙◌}
use mathlib.Core.Bool.{true, false}
use mathlib.Core.List.{List, ◌++◌}
use lib.ListN.{length, take, drop, take-append-drop}
use lib.Seq.{take-append_seam}
use native.Mathlib.Omega.{arith}
use borrow.Author.Tests.{ne_eqb}
use Rattle.wire.specs.Bytes.{Bytes, same}
use Rattle.wire.proofs.Bytes.{same-eq}
use Rattle.std.proofs.lemmas.List.{take_rest}
use Rattle.format.specs.Library.{Options, member_set}
use Rattle.format.specs.Refusals.{Checked, earliest, table_slots, own_rows, check_exports}
use Rattle.format.specs.Numbers.{number_of}
use Rattle.format.specs.Answers.{Written, total, asked, unless, written, leaves, output_after, Writes}
use Rattle.format.specs.declared.Refusal.{Refusal}
use Rattle.format.proofs.Numbers.{number-some}
use Rattle.write_run.specs.declared.replay.Kept.{Kept}
use Rattle.write_run.specs.Kept.{kept_of, output, Agrees}

-- a comparison that says no tells nothing
pub differs : {A : Type 0} → false ≡ true → A
differs e = let z : ◌≡◌ {A = ℕ} 0 1 = cc in absurd (omega arith)

-- an output in two parts
pub two-parts : (n : ℕ) (set before out : Bytes) → same (take n out) set ≡ true → same (take (length out - n) (drop n out)) (take (length before - n) (drop n before)) ≡ true → out ≡ set ++ drop n before
two-parts n set before out e h =
    sym (take-append-drop n out)
    ∙ ap (λ (x : Bytes). x ++ drop n out) (same-eq _ _ e)
    ∙ ap (λ (x : Bytes). set ++ x) (sym (take_rest out n) ∙ same-eq _ _ h ∙ take_rest before n)

-- the Rust wrote
pub answer-total : (k : Kept) (n : ℕ) → k.number ≡ 0 → n ≡ k.value → kept_of (Ok n) ≡ k
unfolding kept_of
answer-total k n e h = ap₂ (λ (a v : ℕ). record { number = a; value = v }) (sym e) h

pub output-total : (k : Kept) (set before out : Bytes) → k.number ≡ 0 → out ≡ set ++ drop (length set) before → out ≡ output k set before
unfolding output
output-total k set before out e h = rw (e, h)

-- the Rust refused
pub answer-refused : (k : Kept) (r : Refusal) {n : ℕ} → n ≡ number_of r.reason → n ≡ k.number → r.place ≡ k.value → kept_of (Err r) ≡ k
unfolding kept_of
answer-refused k r m f h = ap₂ (λ (a v : ℕ). record { number = a; value = v }) (sym m ∙ f) h

pub output-refused : (k : Kept) (set before out : Bytes) → (k.number ≡ 0 → ⊥) → out ≡ before → out ≡ output k set before
unfolding output
output-refused k set before out e h = rw (h, ne_eqb 0 k.number (λ z. e (sym z)))

-- ---- what the writer said and left, and what the Rust did

module _ {o : Options} {list out after : Bytes} {slots slots' : List (List ℕ)} {w v : Written} (wrote : Writes o list slots out w slots' after)
    (many : length slots ≡ table_slots) (told : w ≡ v) where
  said : written o list table_slots (length out) ≡ v
  said = ap (λ (n : ℕ). written o list n (length out)) (sym many) ∙ sym wrote.answers ∙ told

  left : output_after o list table_slots out ≡ after
  left = ap (λ (n : ℕ). output_after o list n out) (sym many) ∙ sym wrote.output

  module _ (k : Kept) (set before : Bytes) (guard : before ≡ out) (asks : (k.number ≡ 15 → ⊥) → kept_of (asked o list) ≡ k) where
    pub agrees-written : (kept_of v ≡ k) × (k.value ≡ length set) × (after ≡ output k set before) → Agrees o list k set out
    agrees-written (e, n, h) = record { answers = ap kept_of said ∙ e; total = λ z. n; leaves = left ∙ h ∙ ap (output k set) guard; asks = asks }

    pub agrees-refused : (kept_of v ≡ k) × (k.number ≡ 0 → ⊥) × ((s : Bytes) → after ≡ output k s before) → Agrees o list k set out
    agrees-refused (e, n, h) = record { answers = ap kept_of said ∙ e; total = λ z. absurd (n z); leaves = left ∙ h set ∙ ap (output k set) guard; asks = asks }

-- ---- what an agreement says of the definitions: the members are the Rust's

set-of : (own c : Checked) (members set out : Bytes) (k : Kept) → kept_of (unless own (total c (length members))) ≡ k → k.number ≡ 0 → k.value ≡ length set
    → leaves (unless own (total c (length members))) members out ≡ set ++ drop (length set) out → members ≡ set
unfolding unless total leaves kept_of
set-of (Ok t) (Ok u) members set out k e z h g =
    let n : length members ≡ length set = ap (λ (k : Kept). k.value) e ∙ h in
    sym (take-append_seam members (drop (length members) out)) ∙ ap (λ (x : Bytes). take (length members) x) g ∙ ap (λ (x : ℕ). take x (set ++ drop (length set) out)) n ∙ take-append_seam set (drop (length set) out)
set-of (Err r) (Ok t) members set out k e z h g = absurd (omega (arith, number-some r.reason, ap (λ (k : Kept). k.number) e, z))
set-of own (Err r) members set out k e z h g = absurd (omega (arith, number-some r.reason, ap (λ (k : Kept). k.number) e, z))

pub agrees-set : (o : Options) (list : Bytes) (k : Kept) (set out : Bytes) → Agrees o list k set out → k.number ≡ 0 → member_set o list ≡ set
unfolding written asked output_after output
agrees-set o list k set out a z =
    set-of (earliest (own_rows o list table_slots (length out))) (check_exports o list) (member_set o list) set out k a.answers z (a.total z) (a.leaves ∙ rw z)
