-- A member drawn into a scratch: the whole of it where it goes in, and its first bytes where it does not.
use Prim.Native.Nat.{ℕ, ◌+◌, ◌≤◌}
use mathlib.Core.Path.{◌≡◌, sym, ap, ◌∙◌}
use mathlib.Core.List.{◌++◌, append-nil}
use native.Mathlib.Omega.{arith}
use lib.ListN.{length, take, drop, take-append-drop, drop_of_length-le}
use lib.Seq.{take-append_seam, length-take-le}
use Rattle.wire.specs.Bytes.{Bytes, part}
use Rattle.wire.specs.Writes.{over, Wrote, Found}
use Rattle.wire.proofs.Writes.{wrote-exact, over-exact, over-clip, ◌⨟◌, found-as}

pub drawn-whole : {l b l' : Bytes} {r : ℕ} → Wrote l 0 b l' r → length b ≤ length l → part l' 0 r ≡ b
unfolding part
drawn-whole {l} {b} {l'} {r} w h =
    let k : 0 + length b ≤ length l = omega arith in
    let e : r ≡ length b = omega (arith, w.next) in
    ap (take r) (wrote-exact w k) ∙ ap (λ (n : ℕ). take n (b ++ drop (0 + length b) l)) e ∙ take-append_seam b (drop (0 + length b) l)

pub drawn-head : {l b l' : Bytes} {r : ℕ} → Wrote l 0 b l' r → length l ≤ length b → l' ≡ take (length l) b
drawn-head {l} {b} {l'} w h =
    let n = length l in
    let m : length (take n b) ≡ n = length-take-le n b h in
    w.bytes
    ∙ ap (λ (d : Bytes). over 0 d l) (sym (take-append-drop n b))
    ∙ over-clip 0 (take n b) (drop n b) l (omega arith)
    ∙ over-exact 0 (take n b) l (omega arith)
    ∙ ap (λ (d : Bytes). take n b ++ d) (drop_of_length-le l {i = 0 + length (take n b)} (omega arith))
    ∙ append-nil (take n b)

-- what is looked for after its head
pub after-head : {s b h t : Bytes} {a r : ℕ} (n : ℕ) → h ≡ take n b → drop n b ≡ t → Found s 0 h a → Found s a t r → Found s 0 b r
after-head {b = b} n e f g k =
    found-as (ap (λ (d : Bytes). d ++ drop n b) e ∙ take-append-drop n b) (g ⨟ found-as (sym f) k)
