-- Laws of ARM64EC names: the ways through mangling and demangling.
use Rattle.std.specs.Prelude.{None, Some, if◌then◌else◌}
use Prim.Native.Nat.{ℕ, ◌+◌}
use mathlib.Core.Path.{◌≡◌, refl, sym, ap, ◌∙◌}
use mathlib.Core.Bool.{Bool, true, false, ◌||◌, not}
use mathlib.Core.Option.{none, some}
use mathlib.Core.List.{[], ◌∷◌}
use native.Mathlib.Omega.{arith}
use lib.ListN.{length}
use borrow.Author.Tests.{eq-eqb, ne_eqb, eqb-true}
use Rattle.wire.specs.Bytes.{Bytes, starts, is_some}
use Rattle.format.specs.Names.{hash, question, tag, find, tagged, cut, demangle}
use Rattle.laws.proofs.Names.{starts-some, same-one, find-within}
use Rattle.names.specs.Mangler.{mangling_of, demangled_of, Demangles}
use Rattle.names.specs.declared.mangler.Mangling.TheVariants.{Prefix, Mangled}
use Rattle.names.specs.declared.mangler.Demangled.TheVariants.{Dropped, Cut}

-- ---- starts

-- a string starts with one byte
pub starts-other : (a b : ℕ) (s : Bytes) → (a ≡ b → ⊥) → starts a s ≡ true → starts b s ≡ false
unfolding starts
starts-other a b [] h e = refl
starts-other a b (x ∷ xs) h e = ne_eqb x b (λ q. h (sym (eqb-true x a e) ∙ q))

-- ---- mangling_of

-- by the outcomes of its tests
pub mangling-by : (s : Bytes) {q h t : Bool} → starts question s ≡ q → starts hash s ≡ h → tagged s ≡ t
    → mangling_of s ≡ (if not (q || h) then Some Prefix else if h || t then Some Mangled else None)
unfolding mangling_of
mangling-by s e f g = rw (e, f, g)

-- a C++ name, with its tag and without
module _ (s : Bytes) (e : starts question s ≡ true) where
  pub mangling-tagged : {i : ℕ} → find tag s ≡ some i → mangling_of s ≡ Some Mangled
  unfolding tagged is_some
  mangling-tagged f = mangling-by s e (starts-other question hash s (λ q. absurd (omega arith)) e) (ap is_some f)

  pub mangling-untagged : find tag s ≡ none → mangling_of s ≡ None
  unfolding tagged is_some
  mangling-untagged f = mangling-by s e (starts-other question hash s (λ q. absurd (omega arith)) e) (ap is_some f)

-- ---- Demangles

module _ (s : Bytes) where
  module _ (h : starts hash s ≡ true) where
    pub demangles-alone : length s ≡ 1 → Demangles s None
    unfolding demangle demangled_of
    demangles-alone l = record { name = rw (same-one hash s, h, eq-eqb (length s) 1 l); within = omega arith }

    pub demangles-dropped : (length s ≡ 1 → ⊥) → Demangles s (Some Dropped)
    unfolding demangle demangled_of
    demangles-dropped l = record { name = rw (same-one hash s, h, ne_eqb (length s) 1 l); within = starts-some hash s h }

  module _ (h : starts hash s ≡ false) where
    pub demangles-plain : starts question s ≡ false → Demangles s None
    unfolding demangle demangled_of
    demangles-plain e = record { name = rw (same-one hash s, h, e); within = omega arith }

    module _ (q : starts question s ≡ true) where
      pub demangles-untagged : find tag s ≡ none → Demangles s None
      unfolding demangle demangled_of cut
      demangles-untagged e = record { name = rw (same-one hash s, h, q, e); within = omega arith }

      module _ {at : ℕ} (e : find tag s ≡ some at) where
        pub demangles-last : at + 3 ≡ length s → Demangles s None
        unfolding demangle demangled_of cut
        demangles-last l = record { name = rw (same-one hash s, h, q, e, eq-eqb (length s) (at + 3) (sym l)); within = omega arith }

        pub demangles-cut : (at + 3 ≡ length s → ⊥) → Demangles s (Some (Cut at))
        unfolding demangle demangled_of cut
        demangles-cut l =
            record {
              name = rw (same-one hash s, h, q, e, ne_eqb (length s) (at + 3) (λ k. l (sym k)));
              within = omega (arith, find-within tag s at e, l);
            }
