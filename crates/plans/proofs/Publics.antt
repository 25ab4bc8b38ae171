-- Laws of a record's public name, and of the rows 11 to 14 by it.
use Rattle.std.specs.Prelude.{if◌then◌else◌, Ok, Err}
use Rattle.std.specs.Prelude as std
use Prim.Native.Nat.{ℕ, ◌+◌, ◌≤◌, ◌<◌}
use mathlib.Core.Path.{◌≡◌, refl, sym, ◌∙◌}
use mathlib.Core.Bool.{Bool, true, false}
use mathlib.Core.Option.{Option, none, some, get_or}
use mathlib.Core.List.{[], ◌∷◌}
use native.Mathlib.Omega.{arith}
use lib.ListN.{length}
use borrow.Author.Tests.{ne_eqb}
use Rattle.wire.specs.Bytes.{Bytes}
use Rattle.wire.proofs.Bytes.{length-part}
use Rattle.format.specs.Machines.{arm64ec}
use Rattle.format.specs.Exports.{Export, names_at, offset_of, length_of, field_at, absent_at, bytes_at, string_at, is_private, export_at}
use Rattle.format.specs.Names.{replace}
use Rattle.format.specs.Plan.{Plan, Choice, typed, later, base, renamed, public_name, choose, plan_choice, plan_public, plan}
use Rattle.format.specs.Refusals.{refusal, earliest, plan_rows, name_rows}
use Rattle.format.specs.declared.Reason.{Reason}
use Rattle.format.specs.declared.Reason.TheVariants.{NotRenamed}
use Rattle.names.specs.Rename.{Renamed}
use Rattle.names.specs.declared.built.BuiltName.{BuiltName}
use Rattle.lists.specs.Held.{Held}
use Rattle.plans.specs.Shape.{short_of, planned}
use Rattle.plans.specs.declared.Short.{Short}
use Rattle.lists.proofs.Records.{string-there}
use Rattle.plans.proofs.Choices.{string-none}

-- ---- the public name

pub public-base : (b : Bytes) (k : ℕ) → absent_at b (field_at k 1) ≡ true → public_name (export_at b k) ≡ some (base (export_at b k))
unfolding public_name renamed export_at
public-base b k a = rw (string-none b (field_at k 1) a)

-- an ext_name that is there
pub ext_name-is : (b : Bytes) (k : ℕ) {x : Bytes} → some x ≡ string_at b (field_at k 1) → (absent_at b (field_at k 1) ≡ false) × (x ≡ bytes_at b (field_at k 1))
ext_name-is b k e = string-there b (field_at k 1) (sym e)

pub public-renamed : (b : Bytes) (k : ℕ) {s n x : Bytes} → some x ≡ string_at b (field_at k 1) → s ≡ base (export_at b k) → n ≡ (export_at b k).name
    → replace s n x ≡ public_name (export_at b k)
unfolding public_name renamed export_at
public-renamed b k a e f = rw (← a, ← e, ← f) refl

-- by what replacing answers
pub renamed-by : (b : Bytes) (k : ℕ) {s n x : Bytes} {r : std.Option BuiltName} → some x ≡ string_at b (field_at k 1) → s ≡ base (export_at b k) → n ≡ (export_at b k).name
    → Renamed (replace s n x) r → Renamed (public_name (export_at b k)) r
renamed-by b k a e f h = record { name = h.name ∙ public-renamed b k a e f; fits = h.fits }

-- ---- how long a record's strings are

pub string-length : (b : Bytes) (k f : ℕ) → Held b k → f < 5 → length (bytes_at b (field_at k f)) ≡ length_of b (field_at k f)
unfolding bytes_at
string-length b k f h g = length-part b (names_at b + offset_of b (field_at k f)) (length_of b (field_at k f)) (h.strings f g)

pub name-length : (b : Bytes) (k : ℕ) → Held b k → length (export_at b k).name ≡ length_of b (field_at k 0)
unfolding export_at
name-length b k h = string-length b k 0 h (omega arith)

pub base-length : (b : Bytes) (k : ℕ) → Held b k → length (base (export_at b k)) ≤ 4095
unfolding export_at string_at
base-length b k h = pick (absent_at b (field_at k 2))
  where
    pick : (t : Bool) → length (get_or (if t then none else some (bytes_at b (field_at k 2))) (bytes_at b (field_at k 0))) ≤ 4095
    pick true = omega (arith, string-length b k 0 h (omega arith), h.few 0 (omega arith))
    pick false = omega (arith, string-length b k 2 h (omega arith), h.few 2 (omega arith))

-- ---- rows 11 to 14

module _ (machine : ℕ) (mingw : Bool) (b : Bytes) (k : ℕ) where
  pub names-private : is_private (export_at b k) ≡ true → Ok tt ≡ earliest (name_rows machine mingw b k)
  unfolding name_rows earliest
  names-private h = rw h

  pub names-by : (q : Option Bytes) → is_private (export_at b k) ≡ false → public_name (export_at b k) ≡ q
      → earliest (plan_rows k (plan_public machine mingw (export_at b k) q)) ≡ earliest (name_rows machine mingw b k)
  unfolding name_rows plan
  names-by q h e = rw (h, e)

  pub names-11 : is_private (export_at b k) ≡ false → public_name (export_at b k) ≡ none → Err (refusal NotRenamed k) ≡ earliest (name_rows machine mingw b k)
  unfolding plan_rows earliest plan_public
  names-11 h e = names-by none h e

-- off ARM64EC a public name that is not empty is not refused
pub rows-native : (k machine : ℕ) (mingw : Bool) (e : Export) (p : Bytes) → (machine ≡ arm64ec → ⊥) → (length p ≡ 0 → ⊥) → Ok tt ≡ earliest (plan_rows k (plan_public machine mingw e (some p)))
unfolding plan_public plan_choice plan_rows earliest
rows-native k machine mingw e [] m h = absurd (h refl)
rows-native k machine mingw e (c ∷ cs) m h = pick (choose machine mingw e (c ∷ cs))
  where
    pick : (q : Choice) → Ok tt ≡ earliest (plan_rows k (plan_choice machine e (c ∷ cs) q))
    pick (later w) = refl
    pick (typed t x) = rw (ne_eqb machine arm64ec m)

-- a plan's refusal, by what was planned
pub rows-planned : (k : ℕ) (e : Export) (p : Bytes) (q : Plan) (s : std.Option Short) → planned e p (Ok s) ≡ q → Ok tt ≡ earliest (plan_rows k q)
unfolding planned short_of plan_rows earliest
rows-planned k e p q (std.Some s) g = rw (← g)
rows-planned k e p q std.None g = rw (← g)

pub rows-refused : (k : ℕ) (n : Reason) (e : Export) (p : Bytes) (q : Plan) → planned e p (Err n) ≡ q → Err (refusal n k) ≡ earliest (plan_rows k q)
unfolding planned plan_rows earliest
rows-refused k n e p q g = rw (← g)
