-- `records::auxiliary` meets its contract.
use Rattle.format.specs.Layouts.{auxiliary}
use Rattle.records.proofs.auxiliary.Goals as goal

pub returns : goal.returns
unfolding auxiliary
returns c = rw (c.to_le_bytes.ensures, c.to_le_bytes-2.ensures)
