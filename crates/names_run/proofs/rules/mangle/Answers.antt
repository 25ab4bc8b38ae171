-- `names_run::rules::mangle` meets its contract.
use Rattle.std.specs.Prelude.{Some}
use mathlib.Core.Path.{sym, ap, ◌∙◌}
use borrow.Author.Tests.{eqb-true}
use Rattle.names_run.specs.Told.{verdict_of}
use Rattle.names_run.proofs.rules.mangle.Goals as goal

pub returns-in-Some-Prefix : goal.returns-in-Some-Prefix
returns-in-Some-Prefix c =
    λ e. (c.is_prefixed.ensures e).0 ∙ ap verdict_of (sym (c.in-Some-Prefix.is ∙ ap Some c.in-Some-Prefix.field-0-is) ∙ c.get_arm64ec_mangled_function_name.ensures)

pub returns-in-Some-Mangled : goal.returns-in-Some-Mangled
returns-in-Some-Mangled c = λ e. eqb-true _ _ e ∙ ap verdict_of (sym (c.in-Some-Mangled.is ∙ ap Some c.in-Some-Mangled.field-0-is) ∙ c.get_arm64ec_mangled_function_name.ensures)

pub returns-in-None : goal.returns-in-None
returns-in-None c = λ e. eqb-true _ _ e ∙ ap verdict_of (sym c.in-None.is ∙ c.get_arm64ec_mangled_function_name.ensures)
