use mathlib.Core.Path.{refl, sym, ◌∙◌}
use native.Mathlib.Omega.{arith}
use Rattle.format.proofs.Rows.{passed-on, rows-more, rows-stop, rows-end}
use Rattle.lists.proofs.Records.{held}
use Rattle.plans.proofs.check.check_names.Goals as goal

pub loop-k-init : goal.loop-k-init
loop-k-init c = refl

pub invariant_of-check_name : goal.invariant_of-check_name
invariant_of-check_name c = record { held = held _ _ c.requires.b_value (omega (arith, c.loop-k-test.true, c.requires.from_le_to.1)) }

pub returns-in_err-check_name : goal.returns-in_err-check_name
returns-in_err-check_name c =
    passed-on _ c.from_residual.ensures.1
    ∙ sym (c.loop-k.invariant ∙ rows-stop _ _ _ _ c.loop-k-test.true (sym c.check_name.ensures ∙ c.in_err-check_name.was))

pub loop-k-preserved : goal.loop-k-preserved
loop-k-preserved c =
    c.loop-k.invariant ∙ rows-more _ _ _ c.loop-k-test.true (sym c.check_name.ensures ∙ c.in_ok-check_name.was)

pub returns : goal.returns
returns c = sym (c.loop-k.invariant ∙ rows-end _ _ _ c.loop-k-test.false)
