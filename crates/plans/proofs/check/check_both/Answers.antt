-- `plans::check::check_both` meets its contract.
use Prim.Native.Nat.{ℕ, ◌+◌}
use mathlib.Core.Path.{sym, ap, ◌∙◌}
use native.Mathlib.Omega.{arith}
use Rattle.format.proofs.Listed.{listed}
use Rattle.format.proofs.Rows.{passed-on}
use Rattle.plans.proofs.Accepting.{both-stop, both-on}
use Rattle.plans.proofs.check.check_both.Goals as goal

pub u32_at-first-requires : goal.u32_at-first-requires
u32_at-first-requires c = let l = listed _ c.requires in omega (arith, l.shape.headed)

pub u32_at-requires : goal.u32_at-requires
u32_at-requires c =
    let l = listed _ c.requires in omega (arith, l.shape.headed)

pub overflow_add-both : goal.overflow_add-both
overflow_add-both c =
    let l = listed _ c.requires in omega (arith, l.shape.firsts, l.shape.natives, c.u32_at-first.ensures, c.u32_at.ensures)

pub returns-in_err-check_names : goal.returns-in_err-check_names
returns-in_err-check_names c =
    λ compat. passed-on _ c.from_residual.ensures.1 ∙ both-stop _ _ _ _ c.u32_at-first.ensures
    (rw c.first.ensures at (sym c.check_names.ensures ∙ c.in_err-check_names.was))

pub returns : goal.returns
returns c =
    λ compat. let e = rw c.first.ensures at (sym c.check_names.ensures ∙ c.in_ok-check_names.was) in
    (rw c.native.ensures at c.check_names-2.ensures) ∙ both-on _ _ _ _ c.u32_at-first.ensures
    (ap (λ (m : ℕ). c.u32_at-first.result + m) c.u32_at.ensures) e
