-- `plans::gives` meets its contract.
use mathlib.Core.Path.{◌∙◌}
use Rattle.plans.proofs.Choices.{gives-is}
use Rattle.plans.proofs.gives.Goals as goal

pub returns : goal.returns
returns c =
    gives-is _ _ _ _ c.same.ensures (c.part.ensures ∙ c.apply_name_type-s.ensures.bytes)
