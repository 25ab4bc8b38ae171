-- The targets of a list's aliases, by the records' numbers.
use Rattle.std.specs.Prelude.{◌≡◌, ℕ, zero, suc, ◌+◌, ◌<◌, ◌≤◌, Bool, true, false, List, length, slice_index, if◌then◌else◌}
use Rattle.std.proofs.Math.Option.{Option, none, some}
use Rattle.wire.specs.Bytes.{Bytes}
use Rattle.format.specs.Exports.{field_at, absent_at, bytes_at}
use Rattle.plans.specs.Keys.{key_at, last_in}

-- one of the n records from k on has an import_name
unfoldable pub any_wanted : Bytes → ℕ → ℕ → Bool
any_wanted b k zero = false
any_wanted b k (suc n) = let later = any_wanted b (k + 1) n in if absent_at b (field_at k 3) then later else true

-- what stands for a record among the targets, and for none
unfoldable pub target_of : Option ℕ → ℕ
target_of none = 65535
target_of (some i) = i

-- the targets of n records from one on: of each that has an import_name, the last of them whose import has that key
pub record Resolved (machine : ℕ) (mingw : Bool) (b : Bytes) (from n : ℕ) (targets : List ℕ) : Type 0 where
  pub held : (k : ℕ) → from ≤ k → k < from + n → absent_at b (field_at k 3) ≡ false → k < length targets
  pub each : (k : ℕ) → from ≤ k → k < from + n → absent_at b (field_at k 3) ≡ false
      → slice_index targets k ≡ target_of (last_in (key_at machine mingw b (bytes_at b (field_at k 3))) from n)
