-- The machines of the table, which are its rows.
use Rattle.std.specs.Prelude.{ℕ, ◌≡◌, false, Option, MatchOption}
use Rattle.format.specs.Machines.{known}
use Rattle.coff.specs.declared.machines.Machine.{Machine}

-- the machine of a number; none exactly where the number is not known
abbrev pub MachineOf : ℕ → Option Machine → Type 0
MachineOf n r = MatchOption r (known n ≡ false) (λ m. m.number ≡ n)
