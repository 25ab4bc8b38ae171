-- The text at a place: what stands there up to a NUL.
use Prim.Native.Nat.{ℕ, ◌+◌, ◌-◌, ◌≤◌}
use mathlib.Core.Path.{◌≡◌, refl, sym, ap, ◌∙◌, subst}
use mathlib.Core.List.{[]}
use native.Mathlib.Decide.{dec_le}
use native.Mathlib.Omega.{arith}
use lib.ListN.{length, drop, drop_of_length-le, length-drop}
use Rattle.wire.specs.Bytes.{Bytes, before, part}
use Rattle.wire.specs.Writes as W
use Rattle.wire.proofs.Writes.{found-there, found-none, found-as}
use Rattle.wire.proofs.Parts.{length-before, take-before}
use Rattle.format.specs.Reader.{text_at}

-- past the end there is none
pub text-out : {r : Bytes} (b : Bytes) (at : ℕ) → length b ≤ at → r ≡ part b 0 0 → r ≡ text_at b at
unfolding text_at before part
text-out b at h e = e ∙ ap (before 0) (sym (drop_of_length-le b h))

pub length-text : (b : Bytes) (at : ℕ) → length (text_at b at) ≤ length b - at
unfolding text_at
length-text b at = omega (arith, length-before 0 (drop at b), length-drop at b)

part-text : (b : Bytes) (at : ℕ) → part b at (length (text_at b at)) ≡ text_at b at
unfolding part text_at
part-text b at = take-before 0 (drop at b)

-- it stands where it was taken
pub text-found : {s : Bytes} (b : Bytes) (at : ℕ) → s ≡ text_at b at → W.Found b at s (at + length s)
unfolding part
text-found {s} b at e = pick (dec_le at (length b))
  where
    pick : Dec (at ≤ length b) → W.Found b at s (at + length s)
    pick (yes h) = found-there b at s (length s) refl (omega (arith, ap length e, length-text b at)) (ap (part b at) (ap length e) ∙ part-text b at ∙ sym e)
    pick (no h) =
        let n : s ≡ [] = e ∙ sym (text-out {r = []} b at (omega arith) refl) in
        let z : at ≡ at + length s = omega (arith, ap length n) in
        subst (λ (r : ℕ). W.Found b at s r) z (found-as (sym n) (found-none b at))
