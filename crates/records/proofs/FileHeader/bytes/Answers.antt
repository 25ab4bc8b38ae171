-- `records::FileHeader::bytes` meets its contract.
use Rattle.wire.specs.Bytes.{join}
use Rattle.format.specs.Layouts.{file_header}
use Rattle.records.proofs.FileHeader.bytes.Goals as goal

pub returns : goal.returns
unfolding file_header join
returns c = rw (c.to_le_bytes.ensures, c.to_le_bytes-2.ensures, c.to_le_bytes-3.ensures, c.to_le_bytes-4.ensures, c.to_le_bytes-5.ensures)
