-- `lists::record::Record::name` meets its contract.
use Rattle.format.specs.Exports.{export_at}
use Rattle.lists.proofs.Records.{named, some-there, bytes-are}
use Rattle.lists.proofs.record.Record.name.Goals as goal

pub unwrap-requires : goal.unwrap-requires
unwrap-requires c = some-there _ _ _ c.string.ensures (named _ _ c.args.self.held)

pub returns : goal.returns
unfolding export_at
returns c = bytes-are _ _ c.string.ensures c.unwrap.ensures
