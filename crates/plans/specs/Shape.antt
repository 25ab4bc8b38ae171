-- What a plan says that holds no name: of an export and its public name, the choice and the plan that it stands for.
use Rattle.std.specs.Prelude.{ℕ, [], ◌∷◌, eqb, if◌then◌else◌, Option, None, Some, Result, Ok, Err}
use Rattle.std.proofs.Math.Option.{get_or}
use Rattle.wire.specs.Bytes.{Bytes, same}
use Rattle.format.specs.Machines.{arm64ec}
use Rattle.format.specs.Exports.{Export}
use Rattle.format.specs.Names.{hash, demangle}
use Rattle.format.specs.Plan as P
use Rattle.format.specs.Plan.{Plan}
use Rattle.format.specs.declared.Reason.{Reason}
use Rattle.coff.specs.Import.{type_number}
use Rattle.plans.specs.declared.Source.{Source}
use Rattle.plans.specs.declared.Source.TheVariants.{Nothing, ExportAs, ImportName, Public, Demangled}
use Rattle.plans.specs.declared.Typed.{Typed}
use Rattle.plans.specs.declared.Short.{Short}

-- the export string
unfoldable pub source_of : Export → Bytes → Source → Bytes
source_of e p Nothing = []
source_of e p ExportAs = get_or e.export_as []
source_of e p ImportName = get_or e.import_name []
source_of e p Public = p
source_of e p Demangled = get_or (demangle p) []

-- what `choose_import` comes to where no type of I386 gives the wanted name
unfoldable pub other_import : ℕ → Bytes → Bytes → P.Choice
other_import machine public wanted =
    if eqb machine arm64ec then P.typed 4 wanted else if same public wanted then P.typed 1 [] else P.later wanted

-- the choice
unfoldable pub choice_of : Export → Bytes → Option Typed → P.Choice
choice_of e p (Some t) = P.typed (type_number t.name_type) (source_of e p t.«export»)
choice_of e p None = P.later (get_or e.import_name [])

-- a short import that is written at once
unfoldable pub short_of : Export → Bytes → Short → Plan
short_of e p s = P.plain (if s.hashed then hash ∷ p else p) (type_number s.name_type) (source_of e p s.«export»)

unfoldable pub short_or_refused : Export → Bytes → Result Short Reason → Plan
short_or_refused e p (Ok s) = short_of e p s
short_or_refused e p (Err r) = P.refused r

-- the plan
unfoldable pub planned : Export → Bytes → Result (Option Short) Reason → Plan
planned e p (Ok (Some s)) = short_of e p s
planned e p (Ok None) = P.deferred p (get_or e.import_name [])
planned e p (Err r) = P.refused r
