-- `records::ImportObjectHeader::find` meets its contract.
use Rattle.wire.proofs.Writes.{found-as}
use Rattle.records.proofs.ImportObjectHeader.find.Goals as goal

pub returns : goal.returns
returns c =
    found-as c.bytes-b.ensures c.find_words.ensures
