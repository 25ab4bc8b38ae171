-- `names_run::rules::gives` meets its contract.
use mathlib.Core.Path.{◌∙◌}
use Rattle.names_run.proofs.Verdicts.{compared}
use Rattle.names_run.proofs.rules.gives.Goals as goal

pub returns : goal.returns
returns c = compared _ _ _ _ c.same.ensures (c.part.ensures ∙ c.apply_name_type-r.ensures.bytes)
