-- `lookup::sets::MemberSet::count` meets its contract.
use native.Mathlib.Omega.{arith}
use Rattle.lookup.proofs.Laying.{laid-header}
use Rattle.lookup.proofs.sets.MemberSet.count.Goals as goal

pub field-requires : goal.field-requires
field-requires c = omega (arith, laid-header _ c.args.self.laid)
