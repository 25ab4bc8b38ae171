-- `records::ImportObjectHeader::bytes` meets its contract.
use Rattle.wire.specs.Bytes.{join}
use Rattle.format.specs.Layouts.{import_header}
use Rattle.records.proofs.ImportObjectHeader.bytes.Goals as goal

pub returns : goal.returns
unfolding import_header join
returns c = rw (c.to_le_bytes.ensures, c.to_le_bytes-2.ensures, c.to_le_bytes-3.ensures, c.to_le_bytes-4.ensures)
