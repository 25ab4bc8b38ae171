-- `library::set::total_resolved` meets its contract.
use mathlib.Core.Path.{◌∙◌}
use Rattle.wire.proofs.Parts.{octets}
use Rattle.library.proofs.MemberSets.{measured-total}
use Rattle.library.proofs.set.total_resolved.Goals as goal

pub returns : goal.returns
returns c =
    c.total_of.ensures ∙ measured-total _ _ (octets _ c.type_inv.b) c.requires.b_value c.measure-size.ensures.1
