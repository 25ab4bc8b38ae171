-- `names_run::rules::wanted` meets its contract.
use mathlib.Core.Path.{sym, ◌∙◌}
use borrow.Author.Tests.{eqb-true}
use Rattle.names_run.proofs.rules.wanted.Goals as goal

pub returns : goal.returns
returns c = λ e. sym c.type_giving.ensures ∙ eqb-true _ _ e
