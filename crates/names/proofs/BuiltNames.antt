-- Laws of built names: what was laid into the bytes of a fresh one.
use Prim.Native.Nat.{ℕ, ◌+◌, ◌≤◌}
use mathlib.Core.Path.{◌≡◌, ap, ◌∙◌}
use native.Mathlib.Omega.{arith}
use lib.ListN.{length, take, drop, replicate, length-replicate}
use lib.Seq.{take_at, length-take-le}
use Rattle.wire.specs.Bytes.{Bytes}
use Rattle.wire.specs.Writes.{Wrote}
use Rattle.wire.proofs.Writes.{wrote-next, wrote-exact, wrote-length}
use Rattle.names.specs.Built.{name_of, Built}
use Rattle.names.specs.declared.built.BuiltName.{BuiltName}

-- as many bytes are used as its length says
pub length-name : (n : BuiltName) → length (name_of n) ≡ n.len
length-name n = length-take-le n.len n.bytes n.within

pub fresh-length : {l : Bytes} → l ≡ replicate 8192 0 → length l ≡ 8192
fresh-length e = ap length e ∙ length-replicate {A = ℕ} 8192 0

-- what was written from the start on is within the bytes, however much it is, and is what the name holds
pub wrote-within : {l b l' : Bytes} {n : ℕ} → Wrote l 0 b l' n → n ≤ length l'
wrote-within w = omega (arith, w.next, wrote-length w)

pub built-wrote : {l b l' : Bytes} {n : ℕ} {k : n ≤ length l'} → length l ≡ 8192 → length b ≤ 8190 → Wrote l 0 b l' n
    → Built b (record { bytes = l'; len = n; within = k })
built-wrote {l} {b} {l'} {n} e h w =
    let q : n ≡ length b = wrote-next w (omega arith) ∙ omega arith in
    let t = ap (take n) (wrote-exact w (omega arith)) ∙ take_at b (drop (0 + length b) l) n (omega arith) in
    record {
      name = t;
      len = q;
      fits = omega arith;
    }
