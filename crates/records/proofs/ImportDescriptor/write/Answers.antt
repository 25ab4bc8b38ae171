-- `records::ImportDescriptor::write` meets its contract.
use Rattle.wire.specs.Bytes.{join}
use Rattle.format.specs.Layouts.{import_descriptor}
use Rattle.records.proofs.ImportDescriptor.write.Goals as goal

pub returns : goal.returns
unfolding import_descriptor join
returns c =
    c.put_zeros.ensures
