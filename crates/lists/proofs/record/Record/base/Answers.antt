-- `lists::record::Record::base` meets its contract.
use mathlib.Core.Path.{◌∙◌}
use Rattle.lists.proofs.Records.{absent-is, there-is, bytes-are, base-name, base-symbol}
use Rattle.lists.proofs.record.Record.base.Goals as goal

pub returns-in-Some : goal.returns-in-Some
returns-in-Some c =
    bytes-are _ _ c.symbol_name.ensures c.in-Some.is ∙ base-symbol _ _ (there-is _ _ c.symbol_name.ensures c.in-Some.is)

pub returns-in-None : goal.returns-in-None
returns-in-None c = c.name.ensures ∙ base-name _ _ (absent-is _ _ c.symbol_name.ensures c.in-None.is)
