-- `plans::keys::key_named` meets its contract.
use mathlib.Core.Path.{sym, ap, ◌∙◌}
use Rattle.std.specs.Prelude.{Ok}
use Rattle.plans.specs.Shape.{planned}
use Rattle.plans.proofs.Answering.{key-short, key-deferred, key-refused}
use Rattle.plans.proofs.keys.key_named.Goals as goal

pub returns-in-Ok-Some : goal.returns-in-Ok-Some
returns-in-Ok-Some c =
    key-short _ _ _ _ _ _ _ c.requires (ap (planned _ _) (sym (c.in-Ok-Some.is ∙ ap Ok c.in-Ok-Some.field-0-is)) ∙ c.plan.ensures) c.gives.ensures

pub returns-in-Ok-None : goal.returns-in-Ok-None
returns-in-Ok-None c =
    key-deferred _ _ _ _ (ap (planned _ _) (sym (c.in-Ok-None.is ∙ ap Ok c.in-Ok-None.field-0-is)) ∙ c.plan.ensures)

pub returns-in-Err : goal.returns-in-Err
returns-in-Err c =
    key-refused _ _ _ _ _ (ap (planned _ _) (sym c.in-Err.is) ∙ c.plan.ensures)
