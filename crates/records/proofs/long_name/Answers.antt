-- `records::long_name` meets its contract.
use Rattle.format.specs.Layouts.{long_name}
use Rattle.records.proofs.long_name.Goals as goal

pub returns : goal.returns
unfolding long_name
returns c = rw c.to_le_bytes.ensures
