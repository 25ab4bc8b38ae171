-- `plans::mangle_set` meets its contract.
use mathlib.Core.Path.{sym, ap, ◌∙◌}
use mathlib.Core.Bool.{false}
use Rattle.std.specs.Prelude.{Some}
use Rattle.plans.specs.Shape.{short_of}
use Rattle.plans.proofs.Choices.{mangled-prefix, mangled-already, mangled-cannot}
use Rattle.plans.proofs.mangle_set.Goals as goal

pub returns-in-Some-Prefix : goal.returns-in-Some-Prefix
unfolding short_of
returns-in-Some-Prefix c =
    λ e. sym (mangled-prefix false _ _ _ (sym c.get_arm64ec_mangled_function_name.ensures ∙ c.in-Some-Prefix.is ∙ ap Some c.in-Some-Prefix.field-0-is))

pub returns-in-Some-Mangled : goal.returns-in-Some-Mangled
unfolding short_of
returns-in-Some-Mangled c =
    λ e. sym (mangled-already false _ _ _ (sym c.get_arm64ec_mangled_function_name.ensures ∙ c.in-Some-Mangled.is ∙ ap Some c.in-Some-Mangled.field-0-is))

pub returns-in-None : goal.returns-in-None
unfolding short_of
returns-in-None c =
    λ e. sym (mangled-cannot false _ _ _ (sym c.get_arm64ec_mangled_function_name.ensures ∙ c.in-None.is))
