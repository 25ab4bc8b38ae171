-- `write_run::replay::is_asked` meets its contract.
use mathlib.Core.Path.{sym, ap, ◌∙◌}
use borrow.Author.Tests.{eqb-true}
use Rattle.write_run.specs.Kept.{kept_of}
use Rattle.write_run.proofs.Agreements.{differs, answer-total, answer-refused}
use Rattle.write_run.proofs.replay.is_asked.Goals as goal

pub returns-then-kept-eq15 : goal.returns-then-kept-eq15
returns-then-kept-eq15 c = λ e other. absurd (other c.if-kept-eq15.true)

pub returns-then-kept-ne0 : goal.returns-then-kept-ne0
returns-then-kept-ne0 c = differs

pub returns-then-number-kept : goal.returns-then-number-kept
returns-then-number-kept c = differs

pub returns-else-kept-ne0 : goal.returns-else-kept-ne0
returns-else-kept-ne0 c = λ e other.
    ap kept_of (sym c.total.ensures ∙ c.in-Ok.is) ∙ answer-total _ _ c.if-kept-ne0.false (eqb-true _ _ e)

pub returns-else-number-kept : goal.returns-else-number-kept
returns-else-number-kept c = λ e other.
    ap kept_of (sym c.total.ensures ∙ c.in-Err.is) ∙ answer-refused _ _ c.number.ensures.0 c.if-number-kept.false (eqb-true _ _ e)
