-- `names_run::rules::demangle` meets its contract.
use Rattle.std.specs.Prelude.{Some}
use mathlib.Core.Path.{ap, ◌∙◌}
use Rattle.names_run.proofs.Verdicts.{dropped-told, cut-told, fails-told, told-none}
use Rattle.names_run.proofs.rules.demangle.Goals as goal

pub returns-in-Some-Dropped : goal.returns-in-Some-Dropped
returns-in-Some-Dropped c =
    λ e. dropped-told _ _ _ c.get_arm64ec_demangled_function_name.ensures (c.in-Some-Dropped.is ∙ ap Some c.in-Some-Dropped.field-0-is) (c.is_dropped.ensures e)

pub returns-in-Some-Cut : goal.returns-in-Some-Cut
returns-in-Some-Cut c =
    λ e. cut-told _ _ _ _ c.get_arm64ec_demangled_function_name.ensures (c.in-Some-Cut.is ∙ ap Some c.in-Some-Cut.field-0-is) (c.is_cut.ensures e)

pub returns-in-None : goal.returns-in-None
returns-in-None c = λ e. fails-told _ _ _ c.get_arm64ec_demangled_function_name.ensures c.in-None.is (told-none _ _ e)
