-- What mangling and demangling come to.
use Rattle.std.specs.Prelude.{ℕ, ◌+◌, ◌≤◌, ◌≡◌, ◌||◌, not, ◌++◌, length, take, drop, if◌then◌else◌, Option, None, Some}
use Rattle.std.proofs.Math.Option as definition
use Rattle.std.proofs.Math.Option.{none, some}
use Rattle.wire.specs.Bytes.{Bytes, starts}
use Rattle.format.specs.Names.{hash, question, tag, tagged, demangle}
use Rattle.names.specs.declared.mangler.Mangling.{Mangling}
use Rattle.names.specs.declared.mangler.Mangling.TheVariants.{Prefix, Mangled}
use Rattle.names.specs.declared.mangler.Demangled.{Demangled}
use Rattle.names.specs.declared.mangler.Demangled.TheVariants.{Dropped, Cut}

-- the case of `mangled` (format's Plan) that a name falls under
unfoldable pub mangling_of : Bytes → Option Mangling
mangling_of s =
    if not (starts question s || starts hash s) then Some Prefix
    else if starts hash s || tagged s then Some Mangled
    else None

-- the demangled name
unfoldable pub demangled_of : Bytes → Option Demangled → definition.Option Bytes
demangled_of s (Some Dropped) = some (drop 1 s)
demangled_of s (Some (Cut at)) = some (take at s ++ drop (at + length tag) s)
demangled_of s None = none

-- how many bytes a name has at least that is demangled so
abbrev pub least_of : Option Demangled → ℕ
least_of (Some Dropped) = 1
least_of (Some (Cut at)) = at + 4
least_of None = 0

-- r says how the name is demangled
pub record Demangles (s : Bytes) (r : Option Demangled) : Type 0 where
  pub name : demangled_of s r ≡ demangle s
  pub within : least_of r ≤ length s
