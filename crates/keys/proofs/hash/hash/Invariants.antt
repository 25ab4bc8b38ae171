-- The hash goes on from the byte c to that of the whole.
use Rattle.std.proofs.Common.{◌≡◌, drop}
use Rattle.keys.specs.Hash.{hash_from, hash_of}
use Rattle.keys.proofs.hash.hash.Given as goal

abbrev pub invariant-loop-c : goal.invariant-loop-c
invariant-loop-c l = hash_from l.h (drop l.c-index l.key) ≡ hash_of l.key
