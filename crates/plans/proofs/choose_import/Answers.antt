-- `plans::choose_import` meets its contract.
use mathlib.Core.Path.{sym, ◌∙◌}
use Rattle.plans.specs.Shape.{source_of, choice_of}
use Rattle.plans.proofs.Choices.{import-other, import-3, import-2, import-neither}
use Rattle.plans.proofs.choose_import.Goals as goal

pub returns-then-machine-ne-IMAGE_FILE_MACHINE_I386 : goal.returns-then-machine-ne-IMAGE_FILE_MACHINE_I386
returns-then-machine-ne-IMAGE_FILE_MACHINE_I386 c = λ e i. c.choose_other.ensures e i ∙ import-other _ _ _ c.if-machine-ne-IMAGE_FILE_MACHINE_I386.true

pub returns-then-gives : goal.returns-then-gives
unfolding choice_of source_of
returns-then-gives c =
    λ e i. import-3 _ _ _ c.if-machine-ne-IMAGE_FILE_MACHINE_I386.false (sym c.gives.ensures ∙ c.if-gives.true)

pub returns-then-gives-2 : goal.returns-then-gives-2
unfolding choice_of source_of
returns-then-gives-2 c =
    λ e i. import-2 _ _ _ c.if-machine-ne-IMAGE_FILE_MACHINE_I386.false (sym c.gives.ensures ∙ c.if-gives.false) (sym c.gives-2.ensures ∙ c.if-gives-2.true)

pub returns : goal.returns
returns c =
    λ e i. c.choose_other-2.ensures e i ∙ import-neither _ _ _ c.if-machine-ne-IMAGE_FILE_MACHINE_I386.false (sym c.gives.ensures ∙ c.if-gives.false)
    (sym c.gives-2.ensures ∙ c.if-gives-2.false)
