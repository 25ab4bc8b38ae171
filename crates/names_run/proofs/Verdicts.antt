-- What a verdict says, and what a rule says that agrees with it.
use Rattle.std.specs.Prelude.{if◌then◌else◌, None, Some}
use Rattle.std.specs.Prelude as std
use Prim.Native.Nat.{ℕ, ◌+◌, ◌-◌}
use mathlib.Core.Path.{◌≡◌, sym, ap, ◌∙◌}
use mathlib.Core.Bool.{Bool, true, false}
use mathlib.Core.Option.{Option, none, some}
use mathlib.Core.List.{◌++◌}
use lib.Dec.{eqb}
use lib.ListN.{length, take, drop, take-append-drop}
use native.Mathlib.Omega.{arith}
use borrow.Author.Tests.{eqb-true}
use Rattle.wire.specs.Bytes.{Bytes, same}
use Rattle.wire.proofs.Bytes.{same-eq}
use Rattle.std.proofs.lemmas.List.{take_rest}
use Rattle.format.specs.Names.{demangle, apply}
use Rattle.names.specs.Mangler.{Demangles, demangled_of}
use Rattle.names.specs.declared.mangler.Demangled.{Demangled}
use Rattle.names.specs.declared.mangler.Demangled.TheVariants.{Dropped, Cut}
use Rattle.names_run.specs.Told.{told, giving_type}

-- a rule that says no agrees with nothing
pub refused : {A : Type 0} → false ≡ true → A
refused e = let z : ◌≡◌ {A = ℕ} 0 1 = cc in absurd (omega arith)

pub told-made : (v : ℕ) (x made : Bytes) → v ≡ 1 → x ≡ made → some x ≡ told v made
unfolding told
told-made v x made e h = rw (e, h)

pub told-none : (v : ℕ) (made : Bytes) → eqb v 0 ≡ true → none ≡ told v made
unfolding told
told-none v made e = rw (eqb-true v 0 e)

-- a test of a string that is another
pub compared : (r : Bool) (x y w : Bytes) → r ≡ same x w → x ≡ y → r ≡ same y w
compared r x y w e h = e ∙ ap (λ (z : Bytes). same z w) h

-- the rest of a name is another name
pub rest-made : (k : ℕ) (name made : Bytes) → same (take (length name - k) (drop k name)) made ≡ true → drop k name ≡ made
rest-made k name made e = sym (take_rest name k) ∙ same-eq _ _ e

-- a name in two parts
pub cut-made : (at end : ℕ) (name made : Bytes) → same (take at name) (take at made) ≡ true → same (take (length name - end) (drop end name)) (take (length made - at) (drop at made)) ≡ true → take at name ++ drop end name ≡ made
cut-made at end name made e h =
    ap (λ (x : Bytes). x ++ drop end name) (same-eq _ _ e)
    ∙ ap (λ (x : Bytes). take at made ++ x) (rest-made end name _ h ∙ take_rest made at)
    ∙ take-append-drop at made

-- ---- demangling

pub dropped-told : (s : Bytes) (r : std.Option Demangled) (x : Option Bytes) → Demangles s r → r ≡ Some Dropped → some (drop 1 s) ≡ x → demangle s ≡ x
unfolding demangled_of
dropped-told s r x d e h = sym d.name ∙ ap (demangled_of s) e ∙ h

pub cut-told : (s : Bytes) (r : std.Option Demangled) (at : ℕ) (x : Option Bytes) → Demangles s r → r ≡ Some (Cut at) → some (take at s ++ drop (at + 3) s) ≡ x → demangle s ≡ x
unfolding demangled_of
cut-told s r at x d e h = sym d.name ∙ ap (demangled_of s) e ∙ h

pub fails-told : (s : Bytes) (r : std.Option Demangled) (x : Option Bytes) → Demangles s r → r ≡ None → none ≡ x → demangle s ≡ x
unfolding demangled_of
fails-told s r x d e h = sym d.name ∙ ap (demangled_of s) e ∙ h

-- ---- the type that gives a name

pub giving-by : (name wanted : Bytes) {a b d : Bool} → same (apply 3 name) wanted ≡ a → same (apply 2 name) wanted ≡ b → same (apply 1 name) wanted ≡ d → giving_type name wanted ≡ (if a then 3 else if b then 2 else if d then 1 else 4)
unfolding giving_type
giving-by name wanted e f g = rw (e, f, g)
