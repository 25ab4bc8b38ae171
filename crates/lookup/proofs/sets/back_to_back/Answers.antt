-- `lookup::sets::back_to_back` meets its contract.
use mathlib.Core.Path.{sym, ◌∙◌}
use Rattle.lookup.proofs.Laying.{back-next, back-elsewhere, back-end}
use Rattle.lookup.proofs.sets.back_to_back.Goals as goal

pub returns-then-offset_at-end : goal.returns-then-offset_at-end
returns-then-offset_at-end c =
    sym (c.loop-i.invariant ∙ back-elsewhere _ _ c.loop-i.i c.loop-i.end c.loop-i-test.true (λ e. c.if-offset_at-end.true (c.offset_at.ensures.0 ∙ e)))

pub loop-i-preserved : goal.loop-i-preserved
loop-i-preserved c =
    c.loop-i.invariant
    ∙ back-next _ _ c.loop-i.i c.loop-i.end c.loop-i-test.true c.if-offset_at-end.false c.offset_at.ensures.0 c.length_at-end.ensures.0

pub returns : goal.returns
returns c = sym (c.loop-i.invariant ∙ back-end _ _ c.loop-i.i c.loop-i.end c.loop-i-test.false)
