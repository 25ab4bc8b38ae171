-- `layout::tables::put_pieces` meets its contract.
use Rattle.wire.proofs.Writes.{wrote-length}
use Rattle.layout.proofs.Runs.{before}
use Rattle.layout.proofs.tables.put_pieces.Goals as goal

pub returns : goal.returns
returns c =
    before c.put-a.ensures c.put_string.ensures

pub shape_of-out : goal.shape_of-out
shape_of-out c = wrote-length (returns c).wrote
