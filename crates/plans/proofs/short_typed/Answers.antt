-- `plans::short_typed` meets its contract.
use mathlib.Core.Path.{sym, ap, ◌∙◌}
use Rattle.coff.specs.Import.{kind_number}
use Rattle.plans.specs.Shape.{short_of, short_or_refused}
use Rattle.plans.proofs.Choices.{plan-ec, plan-data, plan-off, mangled-by, code-is}
use Rattle.plans.proofs.short_typed.Goals as goal

pub returns-then-is_free : goal.returns-then-is_free
returns-then-is_free c =
    c.mangle_free.ensures _ _ _ ∙ mangled-by _ _ _ (sym c.is_free.ensures ∙ c.if-is_free.true) ∙ plan-ec _ _ _ _ _
    c.if-machine-eq-IMAGE_FILE_MACHINE_ARM64EC.true (sym c.import_type.ensures ∙ ap kind_number c.in-Code.is)

pub returns-in-Code : goal.returns-in-Code
unfolding short_or_refused
returns-in-Code c =
    c.mangle_set.ensures _ ∙ mangled-by _ _ _ (sym c.is_free.ensures ∙ c.if-is_free.false) ∙ plan-ec _ _ _ _ _
    c.if-machine-eq-IMAGE_FILE_MACHINE_ARM64EC.true (sym c.import_type.ensures ∙ ap kind_number c.in-Code.is)

pub returns-in_default : goal.returns-in_default
unfolding short_or_refused short_of
returns-in_default c =
    plan-data _ _ _ _ _ c.if-machine-eq-IMAGE_FILE_MACHINE_ARM64EC.true (λ k. c.in_default.not-Code (code-is _ (c.import_type.ensures ∙ k)))

pub returns-else-machine-eq-IMAGE_FILE_MACHINE_ARM64EC : goal.returns-else-machine-eq-IMAGE_FILE_MACHINE_ARM64EC
unfolding short_or_refused short_of
returns-else-machine-eq-IMAGE_FILE_MACHINE_ARM64EC c = plan-off _ _ _ _ _ c.if-machine-eq-IMAGE_FILE_MACHINE_ARM64EC.false
