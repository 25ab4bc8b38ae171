-- Which names are admitted, by the outcomes of the tests.
use Prim.Native.Nat.{ℕ, ◌-◌, ◌≤◌, ◌<◌}
use mathlib.Core.Path.{◌≡◌, refl, sym, ap, ◌∙◌}
use mathlib.Core.Bool.{Bool, true, false, ◌&&◌, not}
use native.Mathlib.Omega.{arith}
use lib.ListN.{length, drop}
use lib.Dec.{leb}
use borrow.Author.Tests.{le-leb, lt-leb}
use Rattle.wire.specs.Bytes.{Bytes, holds, before, part}
use Rattle.wire.proofs.Parts.{part-last, before-free, part-before}
use Rattle.format.specs.Names.{barred_dll}
use Rattle.format.specs.Reader.{between, admits_dll, text_at}
use Rattle.reader.specs.Answers.{Clear, admits_names}

-- ---- texts

text-clear : (b : Bytes) (at : ℕ) → Clear (text_at b at)
unfolding text_at
text-clear b at = before-free 0 (drop at b)

-- the first bytes of what stands at a place
pub text-first : {rest r : Bytes} (b : Bytes) (at n : ℕ) → at ≤ length b → rest ≡ part b at (length b - at) → n ≡ length (before 0 rest) → r ≡ part rest 0 n
    → r ≡ text_at b at
unfolding text_at
text-first {rest} b at n h e l f =
    f ∙ ap (part rest 0) l ∙ part-before 0 rest ∙ ap (before 0) (e ∙ part-last b at (length b - at) (omega arith))

-- it holds no NUL
pub clear-as : {s : Bytes} (b : Bytes) (at : ℕ) → s ≡ text_at b at → Clear s
clear-as b at e = ap (holds 0) e ∙ text-clear b at

-- ---- names

pub between-less : (low high : ℕ) (s : Bytes) → length s < low → false ≡ between low high s
unfolding between
between-less low high s h = rw (lt-leb low (length s) h)

pub between-by : (low high : ℕ) (s : Bytes) → low ≤ length s → Clear s → leb (length s) high ≡ between low high s
unfolding between
between-by low high s h e = rw (le-leb low (length s) h, e) (sym (with-true (leb (length s) high)))
  where
    with-true : (a : Bool) → (a && true) ≡ a
    with-true true = refl
    with-true false = refl

pub dll-unfit : (s : Bytes) → between 1 255 s ≡ false → false ≡ admits_dll s
unfolding admits_dll
dll-unfit s e = rw e

pub dll-by : (s : Bytes) {t : Bool} → between 1 255 s ≡ true → t ≡ barred_dll s → not t ≡ admits_dll s
unfolding admits_dll
dll-by s e f = rw (e, f)

pub names-unfit : (s dll : Bytes) → between 1 8190 s ≡ false → false ≡ admits_names s dll
unfolding admits_names
names-unfit s dll e = rw e

pub names-by : (s dll : Bytes) {t : Bool} → between 1 8190 s ≡ true → t ≡ admits_dll dll → t ≡ admits_names s dll
unfolding admits_names
names-by s dll e f = rw (e, f)
