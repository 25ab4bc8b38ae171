-- `names_run::rules::replace` meets its contract.
use mathlib.Core.Path.{refl, sym, ◌∙◌}
use Rattle.wire.proofs.Bytes.{same-eq}
use Rattle.names.proofs.Renamings.{name-some, name-none}
use Rattle.names_run.proofs.Verdicts.{refused, told-made, told-none}
use Rattle.names_run.proofs.rules.replace.Goals as goal

pub returns-then-from-eq0 : goal.returns-then-from-eq0
returns-then-from-eq0 c = refused

pub returns-then-s-gt-LONGEST : goal.returns-then-s-gt-LONGEST
returns-then-s-gt-LONGEST c = refused

pub returns-then-to-gt-LONGEST : goal.returns-then-to-gt-LONGEST
returns-then-to-gt-LONGEST c = refused

pub returns-in_default : goal.returns-in_default
returns-in_default c = λ e. name-none c.replace.ensures c.in_default.is ∙ told-none _ _ e

pub returns-then-verdict-ne-MADE : goal.returns-then-verdict-ne-MADE
returns-then-verdict-ne-MADE c = refused

pub returns : goal.returns
returns c = λ e.
    name-some c.replace.ensures c.in-Some.is refl
    ∙ told-made _ _ _ c.if-verdict-ne-MADE.false (same-eq _ _ (sym c.equals.ensures ∙ e))
