-- Laws of the hash, byte by byte.
use Rattle.std.proofs.Common.{◌≡◌, ℕ, ◌+◌, ◌*◌, ◌%◌, ◌^◌, ◌<◌, ◌≤◌, length, get_or, drop, drop_of_length-le}
use Rattle.wire.specs.Bytes.{Bytes}
use Rattle.wire.proofs.Bytes.{drop-step}
use Rattle.keys.specs.Hash.{hash_from}

pub hash-step : (s : Bytes) (h i : ℕ) {r : ℕ} → i < length s → r ≡ (33 * h + get_or s i 0) % 2 ^ 32 → hash_from r (drop (i + 1) s) ≡ hash_from h (drop i s)
unfolding hash_from
hash-step s h i g e = rw (e, drop-step 0 s i g)

pub hash-end : (s : Bytes) (h i : ℕ) → length s ≤ i → hash_from h (drop i s) ≡ h
unfolding hash_from
hash-end s h i e = rw (drop_of_length-le s e)
