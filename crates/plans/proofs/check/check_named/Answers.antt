-- `plans::check::check_named` meets its contract.
use mathlib.Core.Path.{sym, ap, ◌∙◌}
use Rattle.plans.specs.Shape.{planned}
use Rattle.plans.proofs.Publics.{rows-native, rows-planned, rows-refused}
use Rattle.plans.proofs.check.check_named.Goals as goal

pub returns-then-public-ne0 : goal.returns-then-public-ne0
returns-then-public-ne0 c = rows-native _ _ _ _ _ c.if-machine-ne-IMAGE_FILE_MACHINE_ARM64EC.true (c.if-public-ne0.true)

pub returns-in-Ok : goal.returns-in-Ok
returns-in-Ok c =
    rows-planned _ _ _ _ _ (ap (planned _ _) (sym c.in-Ok.is) ∙ c.plan.ensures)

pub returns-in-Err : goal.returns-in-Err
returns-in-Err c =
    rw c.at.ensures (rows-refused _ _ _ _ _ (ap (planned _ _) (sym c.in-Err.is) ∙ c.plan.ensures))
