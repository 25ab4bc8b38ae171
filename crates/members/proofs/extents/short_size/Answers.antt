-- `members::extents::short_size` meets its contract.
use Rattle.members.proofs.Extending.{short-exported, short-plain}
use Rattle.members.proofs.extents.short_size.Goals as goal

pub returns-then-number-eq-EXPORT_AS : goal.returns-then-number-eq-EXPORT_AS
returns-then-number-eq-EXPORT_AS c =
    λ m o k. short-exported m o k _ _ _ _ c.args.head.now c.args.tail.now c.number.ensures c.if-number-eq-EXPORT_AS.true

pub returns : goal.returns
returns c =
    λ m o k. short-plain m o k _ _ _ _ c.args.head.now c.args.tail.now c.number.ensures c.if-number-eq-EXPORT_AS.false
