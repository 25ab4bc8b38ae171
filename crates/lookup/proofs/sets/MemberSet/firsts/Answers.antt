-- `lookup::sets::MemberSet::firsts` meets its contract.
use native.Mathlib.Omega.{arith}
use Rattle.lookup.proofs.Laying.{laid-header}
use Rattle.lookup.proofs.sets.MemberSet.firsts.Goals as goal

pub field-requires : goal.field-requires
field-requires c = omega (arith, laid-header _ c.args.self.laid)
