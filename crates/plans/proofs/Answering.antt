-- Laws of keys: the last record whose import has a key is the last import that answers, as the definition has it over the exports.
use Rattle.std.specs.Prelude.{if◌then◌else◌, Ok, Err, None, Some}
use Prim.Native.Nat.{ℕ, zero, suc, ◌+◌}
use mathlib.Core.Path.{◌≡◌, refl, sym, ap, ◌∙◌}
use mathlib.Core.Bool.{Bool, true, false}
use mathlib.Core.Option.{Option, none, some, map}
use mathlib.Core.List.{List, [], ◌∷◌}
use native.Mathlib.Nat.{add-zero}
use native.Mathlib.Omega.{arith}
use borrow.Author.Tests.{ne_eqb}
use Rattle.wire.specs.Bytes.{Bytes, same, or_else}
use Rattle.format.specs.Machines.{arm64ec}
use Rattle.format.specs.Names.{hash, apply}
use Rattle.format.specs.Exports.{Export, is_private, export_at, exports_from}
use Rattle.format.specs.Plan as P
use Rattle.format.specs.Plan.{Plan, public_name, choose, plan_public, plan}
use Rattle.format.specs.Library.{answers_to, last_answering}
use Rattle.laws.proofs.Plans.{choice-final}
use Rattle.coff.specs.Import.{type_number}
use Rattle.plans.specs.Shape.{short_of, planned}
use Rattle.plans.specs.Keys.{key_at, last_in}
use Rattle.plans.specs.declared.Short.{Short}
use Rattle.format.specs.declared.Reason.{Reason}

-- ---- one record

-- off ARM64EC the final name is the public name
pub public-final : (machine : ℕ) (mingw : Bool) (e : Export) (p f x : Bytes) (t : ℕ) → (machine ≡ arm64ec → ⊥) → plan_public machine mingw e (some p) ≡ P.plain f t x → f ≡ p
unfolding plan_public
public-final machine mingw e [] f x t m h = cc
public-final machine mingw e (c ∷ cs) f x t m h = sym (choice-final machine e (c ∷ cs) f x t (choose machine mingw e (c ∷ cs)) (ne_eqb machine arm64ec m) h)

pub key-short : (machine : ℕ) (mingw : Bool) (e : Export) (p w : Bytes) (s : Short) (r : Bool) → (machine ≡ arm64ec → ⊥)
    → planned e p (Ok (Some s)) ≡ plan_public machine mingw e (some p) → r ≡ same (apply (type_number s.name_type) p) w → r ≡ answers_to w (plan_public machine mingw e (some p))
unfolding planned short_of answers_to
key-short machine mingw e p w s r m g k =
    let f : (if s.hashed then hash ∷ p else p) ≡ p = public-final machine mingw e p _ _ _ m (sym g) in
    rw (← g, f) k

pub key-deferred : (e : Export) (p w : Bytes) (q : Plan) → planned e p (Ok None) ≡ q → false ≡ answers_to w q
unfolding planned answers_to
key-deferred e p w q g = rw (← g)

pub key-refused : (n : Reason) (e : Export) (p w : Bytes) (q : Plan) → planned e p (Err n) ≡ q → false ≡ answers_to w q
unfolding planned answers_to
key-refused n e p w q g = rw (← g)

module _ (machine : ℕ) (mingw : Bool) (b w : Bytes) (k : ℕ) where
  pub key-private : is_private (export_at b k) ≡ true → false ≡ key_at machine mingw b w k
  unfolding key_at
  key-private h = rw h

  pub key-by : (q : Option Bytes) → is_private (export_at b k) ≡ false → public_name (export_at b k) ≡ q
      → answers_to w (plan_public machine mingw (export_at b k) q) ≡ key_at machine mingw b w k
  unfolding key_at plan
  key-by q h e = rw (h, e)

  pub key-11 : is_private (export_at b k) ≡ false → public_name (export_at b k) ≡ none → false ≡ key_at machine mingw b w k
  unfolding plan_public answers_to
  key-11 h e = key-by none h e

-- ---- over the exports of a list

last_in-zero : (p : ℕ → Bool) (k : ℕ) → last_in p k 0 ≡ none
unfolding last_in
last_in-zero p k = refl

-- one place more at the front
last_in-front : (p : ℕ → Bool) (k n : ℕ) → last_in p k (suc n) ≡ or_else (last_in p (k + 1) n) (if p k then some k else none)
unfolding last_in or_else
last_in-front p k zero = rw (add-zero k)
last_in-front p k (suc n) =
    let place : k + suc n ≡ k + 1 + n = omega arith in
    rw (place) (pick (p (k + 1 + n)) (last_in-front p k n))
  where
    pick : (t : Bool) → last_in p k (suc n) ≡ or_else (last_in p (k + 1) n) (if p k then some k else none)
        → (if t then some (k + 1 + n) else last_in p k (suc n)) ≡ or_else (if t then some (k + 1 + n) else last_in p (k + 1) n) (if p k then some k else none)
    pick true ih = refl
    pick false ih = ih

map-or_else : {A B : Type 0} (f : A → B) (x y : Option A) → map f (or_else x y) ≡ or_else (map f x) (map f y)
unfolding or_else
map-or_else f none y = refl
map-or_else f (some a) y = refl

module _ (machine : ℕ) (mingw : Bool) (b w : Bytes) where
  one : (e : Export) (later : List Export) (q t : Bool) → answers_to w (plan machine mingw e) ≡ t
      → last_answering machine mingw w (if q then later else e ∷ later) ≡ or_else (last_answering machine mingw w later) (if (if q then false else t) then some e else none)
  unfolding last_answering or_else
  one e later true t h = or-none (last_answering machine mingw w later)
    where
      or-none : (x : Option Export) → x ≡ or_else x none
      or-none none = refl
      or-none (some a) = refl
  one e later false t h = rw h

  abbrev keyed : ℕ → Bool
  keyed k = if is_private (export_at b k) then false else answers_to w (plan machine mingw (export_at b k))

  -- a place that is marked, as the export there
  marked : (k : ℕ) (t : Bool) → (if t then some (export_at b k) else none) ≡ map (export_at b) (if t then some k else none)
  marked k true = refl
  marked k false = refl

  pub last-answering-in : (k n : ℕ) → last_answering machine mingw w (exports_from b k n) ≡ map (export_at b) (last_in (key_at machine mingw b w) k n)
  unfolding exports_from last_answering key_at
  last-answering-in k zero = last-nothing
    where
      last-nothing : none ≡ map (export_at b) (last_in (key_at machine mingw b w) k 0)
      last-nothing = ap (map (export_at b)) (sym (last_in-zero (key_at machine mingw b w) k))
  last-answering-in k (suc n) =
      one (export_at b k) (exports_from b (k + 1) n) (is_private (export_at b k)) (answers_to w (plan machine mingw (export_at b k))) refl
      ∙ ap (λ (x : Option Export). or_else x (if keyed k then some (export_at b k) else none)) (last-answering-in (k + 1) n)
      ∙ ap (or_else (map (export_at b) (last_in (key_at machine mingw b w) (k + 1) n))) (marked k (keyed k))
      ∙ sym (map-or_else (export_at b) (last_in (key_at machine mingw b w) (k + 1) n) (if keyed k then some k else none))
      ∙ ap (map (export_at b)) (sym (last_in-front (key_at machine mingw b w) k n))
