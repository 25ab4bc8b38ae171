-- The paper's numbers of the import kinds and the name types.
use Rattle.std.specs.Prelude.{ℕ, ◌≡◌, ◌<◌, Result, MatchResult}
use Rattle.coff.specs.declared.import.ImportType.{ImportType}
use Rattle.coff.specs.declared.import.ImportType.TheVariants.{Code, Data, Const}
use Rattle.coff.specs.declared.import.UnknownNumber.{UnknownNumber}
use Rattle.coff.specs.declared.import.ImportNameType.{ImportNameType}
use Rattle.coff.specs.declared.import.ImportNameType.TheVariants.{Ordinal, Name, NameNoprefix, NameUndecorate, NameExportas}

abbrev pub kind_number : ImportType → ℕ
kind_number Code = 0
kind_number Data = 1
kind_number Const = 2

abbrev pub type_number : ImportNameType → ℕ
type_number Ordinal = 0
type_number Name = 1
type_number NameNoprefix = 2
type_number NameUndecorate = 3
type_number NameExportas = 4

-- the import kind of a number; an error exactly where it is above 2
abbrev pub KindOf : ℕ → Result ImportType UnknownNumber → Type 0
KindOf n r = MatchResult r (λ k. kind_number k ≡ n) (λ e. (e.0 ≡ n) × (2 < n))

-- the name type of a number; an error exactly where it is above 4
abbrev pub TypeOf : ℕ → Result ImportNameType UnknownNumber → Type 0
TypeOf n r = MatchResult r (λ t. type_number t ≡ n) (λ e. (e.0 ≡ n) × (4 < n))
