-- `layout::tables::put_string` meets its contract.
use Rattle.wire.proofs.Writes.{wrote-length}
use Rattle.layout.proofs.Runs.{ended}
use Rattle.layout.proofs.tables.put_string.Goals as goal

pub returns : goal.returns
returns c =
    ended c.put-a.ensures c.put_u8.ensures

pub shape_of-out : goal.shape_of-out
shape_of-out c = wrote-length (returns c).wrote
