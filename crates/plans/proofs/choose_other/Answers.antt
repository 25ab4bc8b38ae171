-- `plans::choose_other` meets its contract.
use mathlib.Core.Path.{sym, ◌∙◌}
use Rattle.plans.specs.Shape.{source_of, choice_of}
use Rattle.plans.proofs.Choices.{other-ec, other-same, other-later}
use Rattle.plans.proofs.choose_other.Goals as goal

pub returns-then-machine-eq-IMAGE_FILE_MACHINE_ARM64EC : goal.returns-then-machine-eq-IMAGE_FILE_MACHINE_ARM64EC
unfolding choice_of source_of
returns-then-machine-eq-IMAGE_FILE_MACHINE_ARM64EC c = λ e i. rw i (other-ec _ _ _ c.if-machine-eq-IMAGE_FILE_MACHINE_ARM64EC.true)

pub returns-then-same : goal.returns-then-same
unfolding choice_of source_of
returns-then-same c =
    λ e i. other-same _ _ _ c.if-machine-eq-IMAGE_FILE_MACHINE_ARM64EC.false (sym c.same.ensures ∙ c.if-same.true)

pub returns : goal.returns
unfolding choice_of
returns c =
    λ e i. rw i (other-later _ _ _ c.if-machine-eq-IMAGE_FILE_MACHINE_ARM64EC.false (sym c.same.ensures ∙ c.if-same.false))
