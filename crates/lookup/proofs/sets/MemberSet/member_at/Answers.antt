-- `lookup::sets::MemberSet::member_at` meets its contract.
use native.Mathlib.Omega.{arith}
use Rattle.lookup.proofs.Laying.{laid-entry, laid-member, member-is}
use Rattle.lookup.proofs.sets.MemberSet.member_at.Goals as goal

pub offset_at-requires : goal.offset_at-requires
offset_at-requires c = laid-entry _ c.args.self.laid _ c.requires

pub length_at-requires : goal.length_at-requires
length_at-requires c = laid-entry _ c.args.self.laid _ c.requires

pub part-requires : goal.part-requires
part-requires c =
    omega (arith, c.offset_at.ensures.0, c.length_at.ensures.0, laid-member _ c.args.self.laid _ c.requires)

pub returns : goal.returns
returns c =
    member-is _ c.args.self.laid _ c.requires c.part.ensures c.offset_at.ensures.0 c.length_at.ensures.0
