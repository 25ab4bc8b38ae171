-- `keys::Run::insert_named` meets its contract.
use Rattle.std.specs.Prelude.{Ok}
use Rattle.std.proofs.Common.{sym, ap, ◌∙◌}
use Rattle.plans.specs.Shape.{planned}
use Rattle.plans.proofs.Answering.{key-short, key-deferred, key-refused}
use Rattle.keys.proofs.Keyed.{applied-same}
use Rattle.keys.proofs.Slots.{skip-by}
use Rattle.keys.proofs.Run.insert_named.Goals as goal

pub insert-requires-clause-k_value : goal.insert-requires-clause-k_value
insert-requires-clause-k_value c =
    let key = c.part-key.ensures ∙ c.apply_name_type-s.ensures.bytes in
    let short = key-short _ _ _ _ _ _ _ c.args.self.now.not_arm64ec (ap (planned _ _) (sym (c.in-Ok-Some.is ∙ ap Ok c.in-Ok-Some.field-0-is)) ∙ c.plan.ensures) (applied-same _ _ key) in
    sym (c.requires.public_value _) ∙ sym short

pub returns-in-Ok-None : goal.returns-in-Ok-None
returns-in-Ok-None c =
    skip-by _ _ _ _ c.requires.from_le_k.0 c.requires.entered
    (λ w. sym (c.requires.public_value w) ∙ sym (key-deferred _ _ w _ (ap (planned _ _) (sym (c.in-Ok-None.is ∙ ap Ok c.in-Ok-None.field-0-is)) ∙ c.plan.ensures)))

pub returns-in-Err : goal.returns-in-Err
returns-in-Err c =
    skip-by _ _ _ _ c.requires.from_le_k.0 c.requires.entered
    (λ w. sym (c.requires.public_value w) ∙ sym (key-refused _ _ _ w _ (ap (planned _ _) (sym c.in-Err.is) ∙ c.plan.ensures)))
