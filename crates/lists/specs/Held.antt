-- What is known of a record of a list that refusals 2 to 10 pass: it lies within the list, and so do its strings, none of them
-- above the limit, and it has a name.
use Rattle.std.specs.Prelude.{ℕ, ◌+◌, ◌≤◌, ◌<◌, Bool, not, length, drop, Option, None, Some}
use Rattle.std.specs.Borrow.{Bor}
use Rattle.std.proofs.Math.Option as definition
use Rattle.std.proofs.Math.Option.{none, some}
use Rattle.wire.specs.Bytes.{Bytes, holds}
use Rattle.format.specs.Refusals.{max_string}
use Rattle.format.specs.Exports.{header_size, record_size, names_at, record_at, field_at, offset_of, length_of}

pub record Held (b : Bytes) (k : ℕ) : Type 0 where
  pub headed : header_size ≤ length b
  pub counted : k < 8192
  pub inside : record_at k + record_size ≤ length b
  pub named : 1 ≤ length_of b (field_at k 0)
  pub few : (f : ℕ) → f < 5 → length_of b (field_at k f) ≤ max_string
  pub strings : (f : ℕ) → f < 5 → names_at b + offset_of b (field_at k f) + length_of b (field_at k f) ≤ length b

-- no NUL stands in the names
abbrev pub is_clean : Bytes → Bool
is_clean b = not (holds 0 (drop (names_at b) b))

-- a string that may be absent, as the code returns it
abbrev pub string_of : Option (Bor Bytes) → definition.Option Bytes
string_of None = none
string_of (Some s) = some s.now
