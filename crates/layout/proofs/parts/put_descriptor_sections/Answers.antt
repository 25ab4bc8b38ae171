-- `layout::parts::put_descriptor_sections` meets its contract.
use Rattle.wire.proofs.Writes.{wrote-length}
use Rattle.layout.proofs.Runs.{one, ◌⊕◌}
use Rattle.layout.proofs.parts.put_descriptor_sections.Goals as goal

pub returns : goal.returns
returns c =
    one c.write-a.ensures ⊕ one c.write.ensures

pub shape_of-out : goal.shape_of-out
shape_of-out c = wrote-length (returns c).wrote
