-- The last record of a list whose import has a wanted key, by the records' numbers.
use Rattle.std.specs.Prelude.{ℕ, zero, suc, ◌+◌, Bool, false, if◌then◌else◌}
use Rattle.std.proofs.Math.Option.{Option, none, some}
use Rattle.wire.specs.Bytes.{Bytes}
use Rattle.format.specs.Exports.{is_private, export_at}
use Rattle.format.specs.Plan.{plan}
use Rattle.format.specs.Library.{answers_to}

-- a record's import has the wanted key; a private one has none
unfoldable pub key_at : ℕ → Bool → Bytes → Bytes → ℕ → Bool
key_at machine mingw b wanted k = if is_private (export_at b k) then false else answers_to wanted (plan machine mingw (export_at b k))

-- the last of the n places from k at which p holds
unfoldable pub last_in : (ℕ → Bool) → ℕ → ℕ → Option ℕ
last_in p k zero = none
last_in p k (suc n) = let earlier = last_in p k n in if p (k + n) then some (k + n) else earlier
