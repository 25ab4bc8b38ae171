-- The aliases of both lists, resolved.
use Prim.Native.Nat.{ℕ, ◌+◌, ◌-◌, ◌≤◌, ◌<◌}
use mathlib.Core.Path.{◌≡◌, refl, sym, ◌∙◌}
use mathlib.Core.Bool.{Bool, false}
use mathlib.Core.List.{List}
use native.Mathlib.Omega.{arith}
use lib.ListN.{length, get_or}
use Rattle.wire.specs.Bytes.{Bytes}
use Rattle.format.specs.Machines.{arm64ec, first_machine, native_machine}
use Rattle.format.specs.Exports.{first_count, native_count, both_counts}
use Rattle.keys.specs.Targets.{any_wanted, Resolved}
use Rattle.keys.proofs.Targets.{resolved-none}
use Rattle.library.specs.Sets.{ResolvedBy, ResolvedAll}

resolved-at : {machine : ℕ} {mingw : Bool} {b : Bytes} {targets : List ℕ} {from from' n n' : ℕ} → from ≡ from' → n ≡ n' → Resolved machine mingw b from n targets
    → Resolved machine mingw b from' n' targets
resolved-at e f r = rw (← e, ← f) r

module _ {first native : ℕ} {mingw : Bool} {b : Bytes} {targets : List ℕ} (r : ResolvedBy first native mingw b targets) {count : ℕ} (f : count ≡ first_count b) where
  pub resolved-first : (first ≡ arm64ec → ⊥) → Resolved first mingw b 0 (count - 0) targets
  resolved-first m = resolved-at {from = 0} {n = first_count b} refl (omega arith) (r.firsts m)

  pub resolved-native : {both : ℕ} → both ≡ count + native_count b → (native ≡ arm64ec → ⊥) → Resolved native mingw b count (both - count) targets
  resolved-native g m = resolved-at {from = first_count b} {n = native_count b} (sym f) (omega arith) (r.natives m)

pub resolved-by : (machine : ℕ) {first native : ℕ} {mingw : Bool} {b : Bytes} {targets : List ℕ} → first ≡ first_machine machine → native ≡ native_machine machine → ResolvedAll machine mingw b targets
    → ResolvedBy first native mingw b targets
resolved-by machine e f r = rw (e, f) r

-- one list after the other: the second leaves the targets of the first
pub both-resolved : (machine : ℕ) (mingw : Bool) (b : Bytes) {first native count both : ℕ} {l l' : List ℕ} → first ≡ first_machine machine → native ≡ native_machine machine
    → count ≡ first_count b → both ≡ count + native_count b
    → ((first ≡ arm64ec → ⊥) → Resolved first mingw b 0 (count - 0) l) → ((native ≡ arm64ec → ⊥) → Resolved native mingw b count (both - count) l')
    → ((j : ℕ) → j < count → get_or l' j 0 ≡ get_or l j 0) → length l' ≡ length l → ResolvedAll machine mingw b l'
both-resolved machine mingw b {first} {native} {count} {both} {l} {l'} e f c t one two stays s =
    rw (← e, ← f) (record { firsts = λ m. kept (resolved-at {from = 0} {n = count - 0} refl (omega arith) (one m)); natives = λ m. resolved-at {from = count} {n = both - count} c (omega arith) (two m) })
  where
    kept : Resolved first mingw b 0 (first_count b) l → Resolved first mingw b 0 (first_count b) l'
    kept r =
        record {
          held = λ k g h a. omega (arith, r.held k g h a);
          each = λ k g h a. stays k (omega arith) ∙ r.each k g h a;
        }

-- where none is, there is nothing to resolve
pub nothing-wanted : (machine : ℕ) (mingw : Bool) (b : Bytes) (targets : List ℕ) → false ≡ any_wanted b 0 (both_counts b) → ResolvedAll machine mingw b targets
nothing-wanted machine mingw b targets e =
    record {
      firsts = λ m. nothing (first_machine machine) 0 (first_count b) (omega arith);
      natives = λ m. nothing (native_machine machine) (first_count b) (native_count b) (omega arith);
    }
  where
    nothing : (m from n : ℕ) → from + n ≤ both_counts b → Resolved m mingw b from n targets
    nothing m from n h = resolved-none m mingw b 0 (both_counts b) from n targets (sym e) (omega arith) (omega arith)
