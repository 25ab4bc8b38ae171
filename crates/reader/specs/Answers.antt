-- What the reader answers for a member that the bytes may be, and for a machine.
use Rattle.std.specs.Prelude.{ℕ, ◌≡◌, Bool, true, false, ◌&&◌, not, eqb, leb, if◌then◌else◌, Result, Option, MatchOption}
use Rattle.std.proofs.Math.Option.{none, some}
use Rattle.wire.specs.Bytes.{Bytes, u16_at, holds}
use Rattle.format.specs.Machines.{known, arm64x}
use Rattle.format.specs.Layouts.{Member}
use Rattle.format.specs.Reader.{max_symbol, between, admits_dll, ordinary, descriptor_guess, null_guess, thunk_guess, weak_guess, right, fields_or_refused}
use Rattle.format.specs.declared.Read.{Read}
use Rattle.format.specs.declared.Refusal.{Refusal}
use Rattle.coff.specs.declared.machines.Machine.{Machine}

-- the fields of the member where the bytes are its bytes and it is admitted, else the refusal
unfoldable pub answer : Bytes → Member → Result Read Refusal
answer b m = fields_or_refused (if right b m then some m else none)

-- a name holds no NUL
abbrev pub Clear : Bytes → Type 0
Clear s = holds 0 s ≡ false

-- ---- machines and layouts

-- a machine of the table and no hybrid
abbrev pub Ordinary : Machine → Type 0
Ordinary m = ordinary m.number ≡ true

-- the machine of a number; none exactly where the number is not known or is a hybrid's
abbrev pub OrdinaryOf : ℕ → Option Machine → Type 0
OrdinaryOf n r = MatchOption r (ordinary n ≡ false) (λ m. (m.number ≡ n) × Ordinary m)

-- its number stands first in the bytes
abbrev pub First : Machine → Bytes → Type 0
First m b = m.number ≡ u16_at b 0

-- the member that the fields make, by the numbers of symbols and of sections
unfoldable pub object_guess : ℕ → ℕ → Bytes → Member
object_guess symbols sections b =
    if eqb symbols 7 then descriptor_guess b
    else if eqb symbols 5 then weak_guess b
    else if eqb sections 1 then null_guess b
    else thunk_guess b

-- what a short import's symbol and DLL name may be
unfoldable pub admits_names : Bytes → Bytes → Bool
admits_names s dll = between 1 max_symbol s && admits_dll dll

-- what a short import's machine and types may be
unfoldable pub admits_types : ℕ → ℕ → ℕ → Bool
admits_types m k t = known m && not (eqb m arm64x) && leb k 2 && leb t 4
