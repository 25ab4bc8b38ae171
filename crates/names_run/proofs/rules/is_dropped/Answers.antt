-- `names_run::rules::is_dropped` meets its contract.
use mathlib.Core.Path.{sym, ◌∙◌}
use Rattle.names_run.proofs.Verdicts.{refused, told-made, rest-made}
use Rattle.names_run.proofs.rules.is_dropped.Goals as goal

pub returns-then-verdict-ne-MADE : goal.returns-then-verdict-ne-MADE
returns-then-verdict-ne-MADE c = refused

pub returns-then-name-eq0 : goal.returns-then-name-eq0
returns-then-name-eq0 c = refused

pub returns : goal.returns
returns c =
    λ e. told-made _ _ _ c.if-verdict-ne-MADE.false (rest-made 1 c.args.name.now _ (sym c.same.ensures ∙ e))
