-- `lookup::symbols::shown` meets its contract.
use Rattle.std.specs.Prelude.{Some}
use mathlib.Core.Path.{ap, ◌∙◌}
use Rattle.std.proofs.lemmas.List.{take_rest}
use Rattle.lookup.proofs.Defining.{shown-plain, shown-dropped, shown-cut, shown-itself}
use Rattle.lookup.proofs.symbols.shown.Goals as goal

pub returns-then-machine-ne-IMAGE_FILE_MACHINE_ARM64EC : goal.returns-then-machine-ne-IMAGE_FILE_MACHINE_ARM64EC
returns-then-machine-ne-IMAGE_FILE_MACHINE_ARM64EC c = shown-plain _ _ c.if-machine-ne-IMAGE_FILE_MACHINE_ARM64EC.true

pub returns-in-Some-Dropped : goal.returns-in-Some-Dropped
returns-in-Some-Dropped c =
    rw take_rest
    (shown-dropped _ _ c.if-machine-ne-IMAGE_FILE_MACHINE_ARM64EC.false c.get_arm64ec_demangled_function_name.ensures (c.in-Some-Dropped.is ∙ ap Some c.in-Some-Dropped.field-0-is))

pub returns-in-Some-Cut : goal.returns-in-Some-Cut
returns-in-Some-Cut c =
    rw take_rest
    (shown-cut _ _ c.if-machine-ne-IMAGE_FILE_MACHINE_ARM64EC.false c.get_arm64ec_demangled_function_name.ensures _ (c.in-Some-Cut.is ∙ ap Some c.in-Some-Cut.field-0-is))

pub returns-in-None : goal.returns-in-None
returns-in-None c = shown-itself _ _ c.if-machine-ne-IMAGE_FILE_MACHINE_ARM64EC.false c.get_arm64ec_demangled_function_name.ensures c.in-None.is
