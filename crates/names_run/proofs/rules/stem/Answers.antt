-- `names_run::rules::stem` meets its contract.
use mathlib.Core.Path.{sym, ap, ◌∙◌}
use lib.ListN.{length}
use Rattle.wire.proofs.Bytes.{same-eq}
use Rattle.names_run.proofs.Verdicts.{refused, told-made}
use Rattle.names_run.proofs.rules.stem.Goals as goal

pub returns-then-verdict-ne-MADE : goal.returns-then-verdict-ne-MADE
returns-then-verdict-ne-MADE c = refused

pub slice_bounds-same-end : goal.slice_bounds-same-end
slice_bounds-same-end c = c.stem-n.ensures.size ∙ sym (ap length c.stem-n.ensures.bytes)

pub returns : goal.returns
returns c = λ e.
    told-made _ _ _ c.if-verdict-ne-MADE.false (sym c.stem-n.ensures.bytes ∙ same-eq _ _ (sym c.same.ensures ∙ e))
