-- `write_run::replay::is_refused` meets its contract.
use mathlib.Core.Path.{sym, ◌∙◌}
use Rattle.wire.proofs.Bytes.{same-eq}
use Rattle.write_run.proofs.Agreements.{differs, answer-refused, output-refused}
use Rattle.write_run.proofs.replay.is_refused.Goals as goal

pub returns-then-kept-eq0 : goal.returns-then-kept-eq0
returns-then-kept-eq0 c = differs

pub returns-then-number-kept : goal.returns-then-number-kept
returns-then-number-kept c = differs

pub returns-then-refusal-kept : goal.returns-then-refusal-kept
returns-then-refusal-kept c = differs

pub returns : goal.returns
returns c = λ e.
    let some = c.if-kept-eq0.false in
    (answer-refused _ _ c.number.ensures.0 c.if-number-kept.false c.if-refusal-kept.false, some, λ set. output-refused _ set _ _ some (same-eq _ _ (sym c.same.ensures ∙ e)))
