-- `layout::parts::put_descriptor_symbols` meets its contract.
use Rattle.wire.proofs.Writes.{wrote-length}
use Rattle.layout.proofs.Runs.{one, ◌⊕◌}
use Rattle.layout.proofs.parts.put_descriptor_symbols.Goals as goal

pub returns : goal.returns
returns c =
    one c.put_long-a.ensures
    ⊕ one c.write-b.ensures
    ⊕ one c.write-c.ensures
    ⊕ one c.write-d.ensures
    ⊕ one c.write-e.ensures
    ⊕ one c.put_long-f.ensures
    ⊕ one c.put_long.ensures

pub shape_of-out : goal.shape_of-out
shape_of-out c = wrote-length (returns c).wrote
