use mathlib.Core.Path.{sym, ◌∙◌}
use Rattle.format.proofs.Rows.{passed-on, rows-start, rows-more, rows-stop, rows-end}
use Rattle.lists.proofs.check_records.Goals as goal

pub loop-k-init : goal.loop-k-init
loop-k-init c = rows-start _ _

pub returns-in_err-check_record : goal.returns-in_err-check_record
returns-in_err-check_record c =
    passed-on _ c.from_residual.ensures.1
    ∙ sym (c.loop-k.invariant ∙ rows-stop _ _ _ _ c.loop-k-test.true (sym c.check_record.ensures ∙ c.in_err-check_record.was))

pub loop-k-preserved : goal.loop-k-preserved
loop-k-preserved c =
    c.loop-k.invariant ∙ rows-more _ _ _ c.loop-k-test.true (sym c.check_record.ensures ∙ c.in_ok-check_record.was)

pub returns : goal.returns
returns c = sym (c.loop-k.invariant ∙ rows-end _ _ _ c.loop-k-test.false)
