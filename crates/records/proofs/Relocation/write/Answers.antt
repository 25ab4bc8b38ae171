-- `records::Relocation::write` meets its contract.
use Rattle.wire.proofs.Writes.{wrote-as}
use Rattle.records.proofs.Relocation.write.Goals as goal

pub returns : goal.returns
returns c =
    wrote-as c.bytes-b.ensures c.put.ensures
