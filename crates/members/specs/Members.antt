-- Members by what is given.
use Rattle.std.specs.Prelude.{ℕ, ◌≡◌, Bool, List, ◌++◌, length, if◌then◌else◌}
use Rattle.wire.specs.Bytes.{Bytes}
use Rattle.format.specs.Names.{stem}
use Rattle.format.specs.Library.{imp}
use Rattle.format.specs.Layouts.{Member, weak, strings, import_header}

-- a name is the stem of a DLL's
abbrev pub IsStem : Bytes → Bytes → Type 0
IsStem s dll = s ≡ stem dll

-- ---- the short import

-- by its two types in one number, and its strings
abbrev pub short_of : ℕ → ℕ → ℕ → List Bytes → Bytes
short_of machine ordinal types ss = import_header machine (length (strings ss)) ordinal types ++ strings ss

-- ---- the weak external

-- with `__imp_` before both names or with nothing
abbrev pub weak_of : ℕ → Bool → Bytes → Bytes → Member
weak_of machine prefixed target alias =
    weak machine (if prefixed then imp target else target) (if prefixed then imp alias else alias)
