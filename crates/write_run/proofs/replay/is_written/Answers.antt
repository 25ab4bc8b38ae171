-- `write_run::replay::is_written` meets its contract.
use mathlib.Core.Path.{sym, ◌∙◌}
use Rattle.write_run.proofs.Agreements.{differs, answer-total, output-total}
use Rattle.write_run.proofs.replay.is_written.Goals as goal

pub returns-then-kept-ne0 : goal.returns-then-kept-ne0
returns-then-kept-ne0 c = differs

pub returns-then-total-kept : goal.returns-then-total-kept
returns-then-total-kept c = differs

pub returns-then-total-set : goal.returns-then-total-set
returns-then-total-set c = differs

pub returns : goal.returns
returns c = λ e.
    let zero = c.if-kept-ne0.false in
    (answer-total _ _ zero c.if-total-kept.false, sym c.if-total-kept.false ∙ c.if-total-set.false, output-total _ _ _ _ zero (c.holds.ensures e))
