-- The members of one record, and of a run of records.
use Rattle.std.specs.Prelude.{ℕ, Bool, ◌&&◌, not, List, [], map, eqb, length, if◌then◌else◌}
use Rattle.wire.specs.Bytes.{Bytes, join, is_some}
use Rattle.format.specs.Machines.{arm64ec}
use Rattle.format.specs.Exports.{Export, is_private, export_at, exports_from}
use Rattle.format.specs.Plan.{Plan, kind, plan}
use Rattle.format.specs.Layouts.{Member, short}
use Rattle.format.specs.Library.{short_member, deferred_member}

-- an export's short import
abbrev pub import_of : ℕ → Export → ℕ → Bytes → Bytes → Bytes → Member
import_of machine e t s dll x = short machine e.ordinal (kind e) t s dll x

-- an export whose import is written at once and without an export string, whatever its type: neither a code import of ARM64EC nor refused
unfoldable pub direct : ℕ → Export → Bytes → Bool
direct machine e public =
    not (eqb machine arm64ec) && not (eqb (length public) 0) && not (is_some e.export_as) && not (is_some e.import_name)

-- what is written of an export under a plan: at once, or later, where it is deferred
abbrev pub drawn : Bool → ℕ → Bool → Bytes → List Export → Export → Plan → List Member
drawn later machine mingw dll es e p = if later then deferred_member machine mingw dll es e p else short_member machine dll e p

-- the members that f gives of the k-th record; a private one has none
unfoldable pub members_at : (Export → List Member) → Bytes → ℕ → List Member
members_at f b k = if is_private (export_at b k) then [] else f (export_at b k)

-- the members of n records from the k-th on
abbrev pub members_in : (Export → List Member) → Bytes → ℕ → ℕ → List Member
members_in f b k n = join (map f (exports_from b k n))

-- of the k-th record, and of n records from the k-th on, at once or later, in a list whose exports are es
abbrev pub record_members : Bool → ℕ → Bool → Bytes → List Export → Bytes → ℕ → List Member
record_members later machine mingw dll es b k = members_at (λ (e : Export). drawn later machine mingw dll es e (plan machine mingw e)) b k

abbrev pub pass_members : Bool → ℕ → Bool → Bytes → List Export → Bytes → ℕ → ℕ → List Member
pass_members later machine mingw dll es b k n = members_in (λ (e : Export). drawn later machine mingw dll es e (plan machine mingw e)) b k n
