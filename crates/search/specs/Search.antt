-- The answer of a search.
use Rattle.std.specs.Prelude.{ℕ, Option, None, Some}
use Rattle.std.proofs.Math.Option as definition
use Rattle.std.proofs.Math.Option.{none, some}

-- a place as the code returns it
abbrev pub place_of : definition.Option ℕ → Option ℕ
place_of none = None
place_of (some i) = Some i
