-- `plans::plain_type` meets its contract.
use Rattle.lists.proofs.Records.{absent-is, there-is, bytes-are}
use Rattle.plans.proofs.Choices.{plain-own, plain-both}
use Rattle.plans.proofs.plain_type.Goals as goal

pub returns-in_default : goal.returns-in_default
returns-in_default c =
    plain-own _ _ _ _ c.get_own_type.ensures c.name-name.ensures (absent-is _ _ c.symbol_name.ensures c.in_default.is)

pub returns : goal.returns
returns c =
    plain-both _ _ _ _ c.get_name_type.ensures (bytes-are _ _ c.symbol_name.ensures c.in-Some.is) c.name-name.ensures
    (there-is _ _ c.symbol_name.ensures c.in-Some.is)
