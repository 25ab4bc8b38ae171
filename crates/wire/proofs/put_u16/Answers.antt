-- `wire::put_u16` meets its contract.
use Rattle.wire.proofs.Writes.{wrote-as}
use Rattle.wire.proofs.put_u16.Goals as goal

pub returns : goal.returns
returns c = wrote-as c.to_le_bytes.ensures c.put.ensures
