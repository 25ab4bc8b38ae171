-- The hash of a key.
use Rattle.std.specs.Prelude.{ℕ, ◌+◌, ◌*◌, ◌%◌, ◌^◌, [], ◌∷◌}
use Rattle.wire.specs.Bytes.{Bytes}

-- a hash continued: for each byte 33 times itself plus the byte, modulo 2 to the 32
unfoldable pub hash_from : ℕ → Bytes → ℕ
hash_from h [] = h
hash_from h (c ∷ s) = hash_from ((33 * h + c) % 2 ^ 32) s

-- it starts from 5,381
abbrev pub hash_of : Bytes → ℕ
hash_of s = hash_from 5381 s
