-- The Rust's verdicts, as the table has them.
use Rattle.std.specs.Prelude.{ℕ, eqb, if◌then◌else◌, None, Some}
use Rattle.std.specs.Prelude as std
use Rattle.std.proofs.Math.Option.{Option, none, some}
use Rattle.wire.specs.Bytes.{Bytes, same}
use Rattle.format.specs.Names.{apply}
use Rattle.names.specs.declared.mangler.Mangling.{Mangling}
use Rattle.names.specs.declared.mangler.Mangling.TheVariants.{Prefix, Mangled}

-- by the verdict 1 the Rust made the name, by any other it made none
unfoldable pub told : ℕ → Bytes → Option Bytes
told v made = if eqb 1 v then some made else none

-- the verdict on a name that is mangled so
abbrev pub verdict_of : std.Option Mangling → ℕ
verdict_of (Some Prefix) = 0
verdict_of (Some Mangled) = 1
verdict_of None = 2

-- the verdict on an export with an import name on I386: the type by which the name gives the wanted one
unfoldable pub giving_type : Bytes → Bytes → ℕ
giving_type name wanted =
    if same (apply 3 name) wanted then 3
    else if same (apply 2 name) wanted then 2
    else if same (apply 1 name) wanted then 1
    else 4
