-- `members::create_weak_external` meets its contract.
use Rattle.wire.proofs.Writes.{wrote-as}
use Rattle.members.proofs.Cases.{weak-prefixed, weak-plain}
use Rattle.members.proofs.create_weak_external.Goals as goal

pub returns-then-imp : goal.returns-then-imp
returns-then-imp c =
    wrote-as (weak-prefixed _ _ _ _ c.if-imp.true) c.put_weak_external.ensures

pub returns : goal.returns
returns c =
    wrote-as (weak-plain _ _ _ _ c.if-imp.false) c.put_weak_external-2.ensures
