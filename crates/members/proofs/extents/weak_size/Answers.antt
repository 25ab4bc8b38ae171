-- `members::extents::weak_size` meets its contract.
use Rattle.members.proofs.Extending.{weak-prefixed, weak-plain}
use Rattle.members.proofs.extents.weak_size.Goals as goal

pub returns-then-imp : goal.returns-then-imp
returns-then-imp c = λ m. weak-prefixed m _ _ _ c.if-imp.true

pub returns : goal.returns
returns c = λ m. weak-plain m _ _ _ c.if-imp.false
