-- The stem of a DLL name, by its length, and the bytes that bar one.
use Rattle.std.specs.Prelude.{ℕ, ◌<◌, ◌≡◌, ◌≢◌, Bool, ◌||◌, Option, MatchOption, slice_index, length, take, eqb}
use Rattle.wire.specs.Bytes.{Bytes}
use Rattle.format.specs.Names.{dot, slash, backslash, colon, stem}

-- r is where the last dot stands
abbrev pub IsLastDot : Bytes → Option ℕ → Type 0
IsLastDot d r =
    MatchOption r ((k : ℕ) → k < length d → slice_index d k ≢ dot)
    (λ i. (i < length d) × (slice_index d i ≡ dot) × ((k : ℕ) → i < k → k < length d → slice_index d k ≢ dot))

-- the stem is the first r bytes
pub record Stem (dll : Bytes) (r : ℕ) : Type 0 where
  pub bytes : take r dll ≡ stem dll
  pub size : r ≡ length (stem dll)

-- a byte that no DLL name may hold
abbrev pub separates : ℕ → Bool
separates x = eqb x slash || eqb x backslash || eqb x colon
