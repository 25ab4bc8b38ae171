-- A signed number of sixteen bits and its word.
use Prim.Native.Nat.{ℕ, suc, ◌-◌, ◌<◌, ◌≤◌}
use mathlib.Core.Path.{◌≡◌, refl, sym, ◌∙◌}
use native.Mathlib.Decide.{dec_le}
use native.Mathlib.Omega.{arith}
use borrow.Author.Tests.{lt-ltb, le-ltb}
use lib.IntN.{ℤ, pos, negsuc}
use mir.Syntax.{w16}
use mir.Val.{SFits, to_z, of_z}
use Rattle.format.specs.Layouts.{word}
use Rattle.records.specs.Records.{signed}

-- ---- the machine's numbers

-- a word below 32768 is the number itself, and any other is 65536 less
pub to_z-small : (w : ℕ) → w < 32768 → to_z w16 w ≡ pos w
to_z-small w h = rw (lt-ltb w 32768 h)

pub to_z-large : (w : ℕ) → 32768 ≤ w → to_z w16 w ≡ negsuc (65535 - w)
to_z-large w h =
    let e : 65536 - suc w ≡ 65535 - w = omega arith in
    rw (le-ltb w 32768 h, e)

-- ---- word

pub word-small : (z : ℤ) → SFits w16 z → word z < 65536
unfolding word
word-small (pos n) f = let h : n < 32768 = f.sfits in omega arith
word-small (negsuc k) f = omega arith

-- the sixteen bits of a number are its word
pub of_z-word : (z : ℤ) → of_z w16 z ≡ word z
unfolding word
of_z-word (pos n) = refl
of_z-word (negsuc k) = omega arith

-- ---- signed

pub signed-small : (w : ℕ) → w < 32768 → signed w ≡ pos w
unfolding signed
signed-small w h = rw (lt-ltb w 32768 h)

pub signed-large : (w : ℕ) → 32768 ≤ w → signed w ≡ negsuc (65535 - w)
unfolding signed
signed-large w h = rw (le-ltb w 32768 h)

-- what the machine reads in sixteen bits
pub to_z-signed : (w : ℕ) → to_z w16 w ≡ signed w
to_z-signed w = go (dec_le 32768 w)
  where
    go : Dec (32768 ≤ w) → to_z w16 w ≡ signed w
    go (yes h) = to_z-large w h ∙ sym (signed-large w h)
    go (no h) = to_z-small w (omega arith) ∙ sym (signed-small w (omega arith))

-- there and back, of every number of sixteen bits
pub signed-word : (z : ℤ) → SFits w16 z → signed (word z) ≡ z
unfolding word
signed-word (pos n) f = signed-small n f.sfits
signed-word (negsuc k) f =
    let h : k < 32768 = f.sfits in
    let e : 65535 - (65535 - k) ≡ k = omega arith in
    signed-large (65535 - k) (omega arith) ∙ rw e
