-- `lookup::sets::MemberSet::offset_at` meets its contract.
use Rattle.lookup.proofs.Laying.{laid-entry}
use Rattle.lookup.proofs.sets.MemberSet.offset_at.Goals as goal

pub offset_at-requires : goal.offset_at-requires
offset_at-requires c = laid-entry _ c.args.self.laid _ c.requires
