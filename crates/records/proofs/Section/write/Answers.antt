-- `records::Section::write` meets its contract.
use Rattle.wire.proofs.Writes.{wrote-as}
use Rattle.records.proofs.Section.write.Goals as goal

pub returns : goal.returns
returns c =
    wrote-as c.bytes-b.ensures c.put.ensures
