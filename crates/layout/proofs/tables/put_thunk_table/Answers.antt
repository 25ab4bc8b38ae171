-- `layout::tables::put_thunk_table` meets its contract.
use Rattle.wire.proofs.Writes.{wrote-length}
use Rattle.layout.proofs.Runs.{table}
use Rattle.layout.proofs.Sizes.{size-thunk}
use Rattle.layout.proofs.tables.put_thunk_table.Goals as goal

pub returns : goal.returns
returns c =
    table _ (size-thunk _) c.put_u32-a.ensures c.put_thunk_name.ensures

pub shape_of-out : goal.shape_of-out
shape_of-out c = wrote-length (returns c).wrote
