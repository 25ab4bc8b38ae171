-- `layout::parts::put_relocations` meets its contract.
use Rattle.wire.proofs.Writes.{wrote-length}
use Rattle.layout.proofs.Runs.{one, ◌⊕◌}
use Rattle.layout.proofs.parts.put_relocations.Goals as goal

pub returns : goal.returns
returns c =
    one c.write-a.ensures ⊕ one c.write-b.ensures ⊕ one c.write.ensures

pub shape_of-out : goal.shape_of-out
shape_of-out c = wrote-length (returns c).wrote
