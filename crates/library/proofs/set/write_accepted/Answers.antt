-- `library::set::write_accepted` meets its contract.
use mathlib.Core.Path.{refl, sym, ◌∙◌}
use Rattle.laws.proofs.Accepted.{list-accepted}
use Rattle.library.proofs.Resolving.{nothing-wanted}
use Rattle.library.proofs.MemberSets.{written-19, writes-by, enough-writes}
use Rattle.library.proofs.set.write_accepted.Goals as goal

pub returns-then-slots-lt-SLOTS : goal.returns-then-slots-lt-SLOTS
returns-then-slots-lt-SLOTS c =
    let (answer, left) = written-19 _ _ _ _ c.requires c.if-slots-lt-SLOTS.true in
    writes-by _ _ (rw c.at.ensures answer) left (λ _. refl)

pub has_wanted-requires : goal.has_wanted-requires
has_wanted-requires c =
    list-accepted _ _ c.requires

pub write_aliased-requires : goal.write_aliased-requires
write_aliased-requires c = record { b_value = c.requires; table_slots_in_bounds = c.if-slots-lt-SLOTS.false }

pub returns-then-has_wanted : goal.returns-then-has_wanted
returns-then-has_wanted c =
    enough-writes _ _ c.if-slots-lt-SLOTS.false c.write_aliased.ensures.0 c.write_aliased.ensures.1

pub write_resolved-requires : goal.write_resolved-requires
write_resolved-requires c = record { b_value = c.requires; resolved_all = nothing-wanted _ _ _ _ (sym c.if-has_wanted.false ∙ c.has_wanted.ensures) }

pub returns : goal.returns
returns c =
    enough-writes _ _ c.if-slots-lt-SLOTS.false c.write_resolved.ensures.0 c.write_resolved.ensures.1
