-- `layout::tables::put_descriptor_name` meets its contract.
use Rattle.format.specs.Layouts.{descriptor_name}
use Rattle.layout.proofs.tables.put_descriptor_name.Goals as goal

pub returns : goal.returns
unfolding descriptor_name
returns c =
    c.put_pieces.ensures
