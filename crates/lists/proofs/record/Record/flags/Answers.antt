-- `lists::record::Record::flags` meets its contract.
use Rattle.format.specs.Exports.{export_at}
use Rattle.lists.proofs.record.Record.flags.Goals as goal

pub returns : goal.returns
unfolding export_at
returns c = rw (← c.at.ensures) c.u16_at.ensures
