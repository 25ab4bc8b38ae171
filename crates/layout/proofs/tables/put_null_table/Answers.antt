-- `layout::tables::put_null_table` meets its contract.
use Rattle.wire.proofs.Writes.{wrote-length}
use Rattle.layout.proofs.Runs.{table}
use Rattle.layout.proofs.Sizes.{size-null}
use Rattle.layout.proofs.tables.put_null_table.Goals as goal

pub returns : goal.returns
returns c =
    table _ (size-null _ _ c.null_name_len.ensures.0) c.put_u32-a.ensures c.put_null_name.ensures

pub shape_of-out : goal.shape_of-out
shape_of-out c = wrote-length (returns c).wrote
