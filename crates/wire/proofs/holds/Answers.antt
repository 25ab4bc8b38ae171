-- `wire::holds` meets its contract.
use mathlib.Core.Path.{◌∙◌}
use Rattle.wire.proofs.Parts.{holds-any}
use Rattle.wire.proofs.holds.Goals as goal

pub returns : goal.returns
returns c = c.contains.ensures.value ∙ holds-any _ _
