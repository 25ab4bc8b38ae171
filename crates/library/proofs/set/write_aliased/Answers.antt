-- `library::set::write_aliased` meets its contract.
use native.Mathlib.Omega.{arith}
use Rattle.laws.proofs.Accepted.{list-accepted}
use Rattle.library.proofs.MemberSets.{both-small}
use Rattle.library.proofs.set.write_aliased.Goals as goal

pub resolve_all-requires : goal.resolve_all-requires
resolve_all-requires c =
    let e = list-accepted _ _ c.requires.b_value in
    record { table_slots_in_bounds = c.requires.table_slots_in_bounds; b_value = e; b_in_bounds = omega (arith, both-small _ e) }

pub write_resolved-requires : goal.write_resolved-requires
write_resolved-requires c = record { b_value = c.requires.b_value; resolved_all = c.resolve_all.ensures }
