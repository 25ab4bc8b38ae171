-- `library::set::total_aliased` meets its contract.
use native.Mathlib.Omega.{arith}
use Rattle.laws.proofs.Accepted.{list-accepted}
use Rattle.library.proofs.MemberSets.{both-small}
use Rattle.library.proofs.set.total_aliased.Goals as goal

pub resolve_all-requires : goal.resolve_all-requires
resolve_all-requires c =
    let e = list-accepted _ _ c.requires in
    record { table_slots_in_bounds = omega arith; b_value = e; b_in_bounds = omega (arith, both-small _ e) }

pub total_resolved-requires : goal.total_resolved-requires
total_resolved-requires c = record { b_value = c.requires; resolved_all = c.resolve_all.ensures }
