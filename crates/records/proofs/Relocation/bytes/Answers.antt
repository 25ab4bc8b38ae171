-- `records::Relocation::bytes` meets its contract.
use Rattle.wire.specs.Bytes.{join}
use Rattle.format.specs.Layouts.{reloc}
use Rattle.records.proofs.Relocation.bytes.Goals as goal

pub returns : goal.returns
unfolding reloc join
returns c = rw (c.to_le_bytes.ensures, c.to_le_bytes-2.ensures, c.to_le_bytes-3.ensures)
