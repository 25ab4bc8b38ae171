-- The bytes and the fields at a place: read one by one, and found where they were written.
use Prim.Native.Nat.{ℕ, ◌+◌, ◌≤◌, ◌<◌}
use mathlib.Core.Path.{◌≡◌, sym, ap, ◌∙◌}
use mathlib.Core.List.{◌∷◌, ◌++◌}
use native.Mathlib.Nat.{add-zero}
use native.Mathlib.Omega.{arith}
use lib.ListN.{length, get_or, take, drop}
use lib.Seq.{drop-drop, get_or-drop, drop_at, length-take-le}
use Rattle.wire.specs.Bytes.{Bytes, le16, le32, u16_at, u32_at, part}
use Rattle.wire.specs.Writes.{Wrote, Has}
use Rattle.wire.proofs.Bytes.{le16-back, le32-back}
use Rattle.wire.proofs.Writes.{wrote-exact, wrote-length}

-- ---- a part, byte by byte

-- ---- what stands at a place, and k further on

module _ (b : Bytes) (at k : ℕ) {d : Bytes} (e : drop at b ≡ d) where
  pub drop-further : drop (at + k) b ≡ drop k d
  drop-further = sym (drop-drop k at b) ∙ ap (drop k) e

  pub get_or-further : get_or b (at + k) 0 ≡ get_or d k 0
  get_or-further = sym (get_or-drop at b k 0) ∙ ap (λ (l : Bytes). get_or l k 0) e

-- a byte, the first bytes, and a field of two bytes and of four
pub byte-there : (b : Bytes) (at x : ℕ) {r : Bytes} → drop at b ≡ x ∷ r → get_or b at 0 ≡ x
byte-there b at x e = ap (λ (i : ℕ). get_or b i 0) (sym (add-zero at)) ∙ get_or-further b at 0 e

pub part-there : (b : Bytes) (at n : ℕ) {d : Bytes} → drop at b ≡ d → part b at n ≡ take n d
unfolding part
part-there b at n e = ap (take n) e

pub u16-there : (b : Bytes) (at n : ℕ) {r : Bytes} → n < 65536 → drop at b ≡ le16 n ++ r → u16_at b at ≡ n
unfolding u16_at
u16-there b at n h e = rw (byte-there b at _ e, get_or-further b at 1 e) (le16-back n h)

pub u32-there : (b : Bytes) (at n : ℕ) {r : Bytes} → n < 4294967296 → drop at b ≡ le32 n ++ r → u32_at b at ≡ n
unfolding u32_at
u32-there b at n h e = rw (byte-there b at _ e, get_or-further b at 1 e, get_or-further b at 2 e, get_or-further b at 3 e) (le32-back n h)

-- ---- what was written stands at its place

pub wrote-has : {l b l' : Bytes} {at r : ℕ} → Wrote l at b l' r → at + length b ≤ length l → Has l' at b
wrote-has {l} {b} {l'} {at} w h =
    record {
      inside = omega (arith, wrote-length w);
      rest = drop (at + length b) l;
      there = ap (drop at) (wrote-exact w h) ∙ drop_at (take at l) (b ++ drop (at + length b) l) at (length-take-le at l (omega arith));
    }
