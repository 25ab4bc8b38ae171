-- Laws of renaming: the ways through `replace`, and what a located renaming says.
use Rattle.std.specs.Prelude.{None, Some, if◌then◌else◌}
use Rattle.std.specs.Prelude as std
use Prim.Native.Nat.{ℕ, ◌+◌, ◌-◌, ◌≤◌}
use mathlib.Core.Path.{◌≡◌, refl, sym, ap, ◌∙◌}
use mathlib.Core.Bool.{Bool, true, false, ◌&&◌}
use mathlib.Core.Option.{Option, none, some}
use mathlib.Core.List.{◌++◌}
use native.Mathlib.Omega.{arith}
use Rattle.std.proofs.lemmas.List.{take_rest}
use lib.ListN.{length, take, drop, length-append, length-take, length-drop}
use Rattle.wire.specs.Bytes.{Bytes, starts, or_else}
use Rattle.wire.specs.Writes.{Wrote}
use Rattle.wire.proofs.Writes.{◌⨾◌, wrote-as}
use Rattle.format.specs.Names.{underscore, find, splice, replace_once, replace}
use Rattle.laws.proofs.Names.{find-within, replace-length}
use Rattle.names.specs.Rename.{spliced_of, renamed_of, Located, Room, named_of, Renamed}
use Rattle.names.specs.Built.{name_of, Built}
use Rattle.names.specs.declared.built.BuiltName.{BuiltName}
use Rattle.names.specs.declared.rename.Splice.{Splice}

-- ---- replace

module _ (s from to : Bytes) where
  pub replace-once : (x : Bytes) → replace_once s from to ≡ some x → replace s from to ≡ replace_once s from to
  unfolding replace or_else
  replace-once x e = rw e

  module _ (e : replace_once s from to ≡ none) where
    pub replace-plain-from : starts underscore from ≡ false → replace s from to ≡ none
    unfolding replace or_else
    replace-plain-from f = rw (e, f)

    pub replace-plain-to : starts underscore to ≡ false → replace s from to ≡ none
    unfolding replace or_else
    replace-plain-to f = rw (e, f) (side (starts underscore from))
      where
        side : (b : Bool) → (if b && false then replace_once s (drop 1 from) (drop 1 to) else none) ≡ none
        side true = refl
        side false = refl

    pub replace-again : starts underscore from ≡ true → starts underscore to ≡ true → replace s from to ≡ replace_once s (drop 1 from) (drop 1 to)
    unfolding replace or_else
    replace-again f g = rw (e, f, g)

-- three parts, one after the other
pub length-splice : (s to : Bytes) (p : Splice) → p.at ≤ length s
    → length (spliced_of s to p) ≡ p.at + (length to - p.skip) + (length s - p.end)
length-splice s to p h =
    omega (
      arith,
      length-append (take p.at s ++ drop p.skip to) (drop p.end s),
      length-append (take p.at s) (drop p.skip to),
      length-take p.at s,
      length-drop p.skip to,
      length-drop p.end s,
    )

pub splice-fits : {s to : Bytes} {p : Splice} → Room s to p → length (spliced_of s to p) ≤ 8190
splice-fits {s} {to} {p} r = omega (arith, r.fits, length-splice s to p r.before)

-- laid one after the other, they are laid as one
pub splice-wrote : (s to : Bytes) (p : Splice) {l l₁ l₂ l₃ : Bytes} {a b n : ℕ}
    → Wrote l 0 (take p.at s) l₁ a → Wrote l₁ a (take (length to - p.skip) (drop p.skip to)) l₂ b → Wrote l₂ b (take (length s - p.end) (drop p.end s)) l₃ n
    → Wrote l 0 (spliced_of s to p) l₃ n
splice-wrote s to p u v w = u ⨾ wrote-as (take_rest to p.skip) v ⨾ wrote-as (take_rest s p.end) w

-- ---- Located

-- the wanted name said in another way
pub located-as : {s to : Bytes} {v w : Option Bytes} {r : std.Option Splice} → v ≡ w → Located s to v r → Located s to w r
located-as e l = record { name = l.name ∙ e; places = l.places }

pub located-none : {s to : Bytes} {w : Option Bytes} → w ≡ none → Located s to w None
unfolding renamed_of
located-none e = record { name = sym e; places = tt }

module _ (s from to : Bytes) (skip : ℕ) where
  pub located-at : (at : ℕ) → skip ≤ length to → find (drop skip from) s ≡ some at
      → Located s to (replace_once s (drop skip from) (drop skip to)) (Some (record { at = at; end = at + (length from - skip); skip = skip }))
  unfolding renamed_of replace_once splice
  located-at at h e =
      let l = find-within (drop skip from) s at e in
      let d = length-drop skip from in
      record {
        name = rw (e, d);
        places = record { ordered = omega arith; inside = omega arith; skipped = h };
      }

  pub located-nowhere : find (drop skip from) s ≡ none → Located s to (replace_once s (drop skip from) (drop skip to)) None
  unfolding replace_once splice
  located-nowhere e = located-none (rw e)

-- what its two cases say
pub located-some : {s to : Bytes} {w : Option Bytes} {p : Splice} → Located s to w (Some p) → w ≡ some (spliced_of s to p)
unfolding renamed_of
located-some l = sym l.name

pub located-fails : {s to : Bytes} {w : Option Bytes} → Located s to w None → w ≡ none
unfolding renamed_of
located-fails l = sym l.name

-- what the first search says of the whole
module _ (s from to : Bytes) where
  pub locate-first : {p : Splice} → Located s to (replace_once s from to) (Some p) → Located s to (replace s from to) (Some p)
  locate-first l = located-as (sym (replace-once s from to _ (located-some l))) l

  module _ (l : Located s to (replace_once s from to) None) where
    pub locate-plain-from : starts underscore from ≡ false → Located s to (replace s from to) None
    locate-plain-from f = located-none (replace-plain-from s from to (located-fails l) f)

    pub locate-plain-to : starts underscore to ≡ false → Located s to (replace s from to) None
    locate-plain-to f = located-none (replace-plain-to s from to (located-fails l) f)

    pub locate-again : {q : std.Option Splice} → starts underscore from ≡ true → starts underscore to ≡ true
        → Located s to (replace_once s (drop 1 from) (drop 1 to)) q → Located s to (replace s from to) q
    locate-again f g m = located-as (sym (replace-again s from to (located-fails l) f g)) m

-- ---- Renamed

-- what was located fits
module _ (s from to : Bytes) {p : Splice} (l : Located s to (replace s from to) (Some p)) where
  pub located-room : length s ≤ 4095 → 1 ≤ length from → length to ≤ 4095 → Room s to p
  located-room h k j =
      let o = l.places in
      let m : p.at ≤ length s = omega arith in
      record {
        before = m;
        after = omega arith;
        skipped = omega arith;
        fits = omega (arith, replace-length s from to _ k (located-some l), length-splice s to p m);
      }

  pub renamed-some : {n : BuiltName} → length s ≤ 4095 → 1 ≤ length from → length to ≤ 4095 → Built (spliced_of s to p) n
      → Renamed (replace s from to) (Some n)
  renamed-some {n} h k j b =
      record {
        name = ap some b.name ∙ sym (located-some l);
        fits = omega (arith, replace-length s from to _ k (located-some l), b.len);
      }

pub renamed-none : {w : Option Bytes} → w ≡ none → Renamed w None
renamed-none e = record { name = sym e; fits = tt }

-- ---- the name that was made, by what holds it

pub name-some : {q : Option Bytes} {r : std.Option BuiltName} {n : BuiltName} {p : Bytes} → Renamed q r → r ≡ std.Some n → p ≡ name_of n → q ≡ some p
name-some h e f = sym h.name ∙ ap named_of e ∙ ap some (sym f)

pub name-none : {q : Option Bytes} {r : std.Option BuiltName} → Renamed q r → r ≡ std.None → q ≡ none
name-none h e = sym h.name ∙ ap named_of e

pub name-few : {q : Option Bytes} {r : std.Option BuiltName} {n : BuiltName} → Renamed q r → r ≡ std.Some n → n.len ≤ 8189
name-few h e = rw e at h.fits
