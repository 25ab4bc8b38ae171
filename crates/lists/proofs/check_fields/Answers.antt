use mathlib.Core.Path.{refl, sym, ◌∙◌}
use Rattle.format.proofs.Rows.{passed-on, rows-more, rows-stop, rows-end}
use Rattle.lists.proofs.check_fields.Goals as goal

pub loop-f-init : goal.loop-f-init
loop-f-init c = refl

pub returns-in_err-check_field : goal.returns-in_err-check_field
returns-in_err-check_field c =
    passed-on _ c.from_residual.ensures.1
    ∙ sym (c.loop-f.invariant ∙ rows-stop _ _ _ _ c.loop-f-test.true (sym c.check_field.ensures ∙ c.in_err-check_field.was))

pub loop-f-preserved : goal.loop-f-preserved
loop-f-preserved c =
    c.loop-f.invariant ∙ rows-more _ _ _ c.loop-f-test.true (sym c.check_field.ensures ∙ c.in_ok-check_field.was)

pub returns : goal.returns
returns c = sym (c.loop-f.invariant ∙ rows-end _ _ _ c.loop-f-test.false)
