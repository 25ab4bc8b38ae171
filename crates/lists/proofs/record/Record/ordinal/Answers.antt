-- `lists::record::Record::ordinal` meets its contract.
use Rattle.format.specs.Exports.{export_at}
use Rattle.lists.proofs.record.Record.ordinal.Goals as goal

pub returns : goal.returns
unfolding export_at
returns c = rw (← c.at.ensures) c.u16_at.ensures
