-- `library::set::total_accepted` meets its contract.
use mathlib.Core.Path.{sym, ◌∙◌}
use Rattle.laws.proofs.Accepted.{list-accepted}
use Rattle.library.proofs.Resolving.{nothing-wanted}
use Rattle.library.proofs.set.total_accepted.Goals as goal

pub has_wanted-requires : goal.has_wanted-requires
has_wanted-requires c = list-accepted _ _ c.requires

pub total_resolved-requires : goal.total_resolved-requires
total_resolved-requires c = record { b_value = c.requires; resolved_all = nothing-wanted _ _ _ _ (sym c.if-has_wanted.false ∙ c.has_wanted.ensures) }
