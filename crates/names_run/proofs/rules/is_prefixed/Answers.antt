-- `names_run::rules::is_prefixed` meets its contract.
use mathlib.Core.Path.{sym, ◌∙◌}
use Rattle.wire.proofs.Bytes.{same-eq}
use Rattle.names_run.proofs.Verdicts.{refused}
use Rattle.names_run.proofs.rules.is_prefixed.Goals as goal

pub returns-then-verdict-ne-PREFIX : goal.returns-then-verdict-ne-PREFIX
returns-then-verdict-ne-PREFIX c = refused

pub returns-then-name-gt-LONGEST : goal.returns-then-name-gt-LONGEST
returns-then-name-gt-LONGEST c = refused

pub returns : goal.returns
returns c = λ e. (c.if-verdict-ne-PREFIX.false, sym c.mangled.ensures.name ∙ same-eq _ _ (sym c.equals.ensures ∙ e))
