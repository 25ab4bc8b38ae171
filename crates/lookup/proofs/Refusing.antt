-- What is answered by whether the bytes are a set as far as they are looked at; and back.
use Rattle.std.specs.Prelude.{Result, Ok, Err}
use Prim.Native.Nat.{ℕ}
use mathlib.Core.Path.{◌≡◌, refl, ap, ◌∙◌}
use mathlib.Core.Bool.{Bool, true, false}
use native.Mathlib.Omega.{arith}
use Rattle.format.specs.Refusals.{refusal}
use Rattle.format.specs.declared.Reason.TheVariants.{NotASet}
use Rattle.format.specs.declared.Refusal.{Refusal}
use Rattle.lookup.specs.Numbered.{if_set}

module _ {A : Type 0} (t : Bool) (a : A) where
  pub set-kept : {x : A} → if_set t a ≡ Ok x → (t ≡ true) × (a ≡ x)
  set-kept {x} e = pick t e
    where
      pick : (t : Bool) → if_set t a ≡ Ok x → (t ≡ true) × (a ≡ x)
      pick true e = (refl, cc)
      pick false e = let z : ◌≡◌ {A = ℕ} 0 1 = cc in absurd (omega arith)

  pub set-refused : {r : Refusal} → if_set t a ≡ Err r → (t ≡ false) × (r ≡ refusal NotASet 0)
  set-refused {r} e = pick t e
    where
      pick : (t : Bool) → if_set t a ≡ Err r → (t ≡ false) × (r ≡ refusal NotASet 0)
      pick true e = let z : ◌≡◌ {A = ℕ} 0 1 = cc in absurd (omega arith)
      pick false e = (refl, cc)

  -- what the exit of a `?` returns
  pub set-no : {r : Result A Refusal} {q : Refusal} → r ≡ Err q → q ≡ refusal NotASet 0 → t ≡ false → r ≡ if_set t a
  set-no e f g = rw g (e ∙ ap Err f)

  pub set-yes : {x : A} → t ≡ true → x ≡ a → Ok x ≡ if_set t a
  set-yes e f = rw e (ap Ok f)
