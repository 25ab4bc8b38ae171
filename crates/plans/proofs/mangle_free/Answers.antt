-- `plans::mangle_free` meets its contract.
use mathlib.Core.Path.{sym, ap, ◌∙◌}
use mathlib.Core.Bool.{true}
use Rattle.std.specs.Prelude.{Some}
use Rattle.names.specs.Mangler.{demangled_of}
use Rattle.plans.specs.Shape.{source_of, short_of, short_or_refused}
use Rattle.plans.proofs.Choices.{mangled-prefix, mangled-already, mangled-cannot, exporting-none, exporting-shown}
use Rattle.plans.proofs.mangle_free.Goals as goal

pub returns-in_default : goal.returns-in_default
unfolding short_or_refused
returns-in_default c =
    λ e t x. sym (mangled-cannot true _ x t (sym c.get_arm64ec_mangled_function_name.ensures ∙ c.in_default.is))

pub returns-in-Prefix : goal.returns-in-Prefix
unfolding short_or_refused short_of source_of
returns-in-Prefix c =
    λ e t x. sym (mangled-prefix true _ x t (sym c.get_arm64ec_mangled_function_name.ensures ∙ c.in-Some.is ∙ ap Some c.in-Prefix.is))

pub returns-in_default-get_arm64ec_demangled_function_name : goal.returns-in_default-get_arm64ec_demangled_function_name
unfolding short_or_refused demangled_of
returns-in_default-get_arm64ec_demangled_function_name c =
    λ e t x. sym
    (mangled-already true _ x t (sym c.get_arm64ec_mangled_function_name.ensures ∙ c.in-Some.is ∙ ap Some c.in-Mangled.is)
    ∙ exporting-none _ (sym c.get_arm64ec_demangled_function_name.ensures.name ∙ ap (demangled_of c.args.public.now) c.in_default-get_arm64ec_demangled_function_name.is))

pub returns-in-Some-get_arm64ec_demangled_function_name : goal.returns-in-Some-get_arm64ec_demangled_function_name
unfolding short_or_refused short_of source_of
returns-in-Some-get_arm64ec_demangled_function_name c =
    λ e t x. sym
    (mangled-already true _ x t (sym c.get_arm64ec_mangled_function_name.ensures ∙ c.in-Some.is ∙ ap Some c.in-Mangled.is)
    ∙ exporting-shown _ _ (sym c.get_arm64ec_demangled_function_name.ensures.name ∙ ap (demangled_of c.args.public.now) c.in-Some-get_arm64ec_demangled_function_name.is))
