-- Which numbers a table of machines has, and what a machine that was found says of its number.
use Rattle.std.specs.Prelude.{Option, Some}
use Rattle.std.proofs.lemmas.Option.{MatchOption-at_some}
use Prim.Native.Nat.{ℕ}
use mathlib.Core.Path.{◌≡◌, sym, ap, ◌∙◌}
use mathlib.Core.Bool.{Bool, true, false, ◌||◌}
use mathlib.Core.List.{List, [], ◌∷◌}
use lib.Dec.{eqb}
use Rattle.format.specs.Machines.{known}
use Rattle.coff.specs.Machines.{MachineOf}
use Rattle.coff.specs.declared.machines.Machine.{Machine}

-- whether a table has a number
abbrev pub held : ℕ → List Machine → Bool
held n [] = false
held n (m ∷ ms) = eqb n m.number || held n ms

-- the number of a machine that was found is known
pub found-known : (n : ℕ) {r : Option Machine} {m : Machine} → r ≡ Some m → MachineOf n r → known n ≡ true
found-known n {m} e f = ap known (sym (MatchOption-at_some _ _ _ e f)) ∙ m.row.known
