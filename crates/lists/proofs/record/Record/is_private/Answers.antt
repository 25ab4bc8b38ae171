-- `lists::record::Record::is_private` meets its contract.
use Rattle.lists.proofs.Records.{bit-is}
use Rattle.lists.proofs.record.Record.is_private.Goals as goal

pub returns : goal.returns
returns c = rw (← c.flags.ensures) (bit-is _ 2)
