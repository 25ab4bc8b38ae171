-- `plans::is_free` meets its contract.
use mathlib.Core.Logic.{⊎_elim}
use Rattle.format.specs.Plan.{free}
use Rattle.plans.proofs.is_free.Goals as goal

pub returns-in-Ordinal : goal.returns-in-Ordinal
unfolding free
returns-in-Ordinal c = rw c.in-Ordinal.is

pub returns-in-NameExportas : goal.returns-in-NameExportas
unfolding free
returns-in-NameExportas c = rw c.in-NameExportas.is

pub returns-in-Name : goal.returns-in-Name
unfolding free
returns-in-Name c = ⊎_elim (λ e. rw e) (λ e. ⊎_elim (λ e. rw e) (λ e. rw e) e) c.in-Name.is
