-- `layout::parts::put_descriptor_data` meets its contract.
use Rattle.wire.proofs.Writes.{wrote-length}
use Rattle.layout.proofs.Runs.{one, ◌⊕◌, string-parts}
use Rattle.layout.proofs.parts.put_descriptor_data.Goals as goal

pub returns : goal.returns
returns c =
    one c.write-a.ensures ⊕ c.put_relocations-b.ensures ⊕ string-parts c.put_string.ensures

pub shape_of-out : goal.shape_of-out
shape_of-out c = wrote-length (returns c).wrote
