-- `names_run::rules::name_type` meets its contract.
use mathlib.Core.Path.{sym, ◌∙◌}
use borrow.Author.Tests.{eqb-true}
use Rattle.names_run.proofs.rules.name_type.Goals as goal

pub returns : goal.returns
returns c = λ e. sym c.get_name_type-t.ensures ∙ sym c.number.ensures ∙ eqb-true _ _ e
