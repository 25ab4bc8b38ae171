-- The rows of the machines' table, as the scope paper's definitions have them.
use Rattle.std.specs.Prelude.{ℕ, Bool, ◌≡◌, true}
use Rattle.format.specs.Machines.{known, relocation, wide}

-- a row of the table: its number is known, and its relocation and width are the number's
pub record IsRow (n r : ℕ) (w : Bool) : Type 0 where
  pub known : known n ≡ true
  pub relocation : r ≡ relocation n
  pub wide : w ≡ wide n
