-- Demand 3: where each symbol of an accepted list leads, from the written bytes alone.
use Rattle.std.specs.Prelude.{Ok, if◌then◌else◌}
use Prim.Native.Nat.{ℕ}
use mathlib.Core.Path.{◌≡◌, refl, sym, ap, ◌∙◌, subst}
use mathlib.Core.Logic.{◌⊎◌, inl, inr, ⊎_elim}
use mathlib.Core.Bool.{Bool, true, false}
use mathlib.Core.Option.{Option, none, some}
use mathlib.Core.List.{List, [], ◌∷◌, Memᴰ}
use native.Mathlib.Omega.{arith}
use lib.Dec.{eqb}
use Rattle.wire.specs.Bytes.{Bytes, Octets}
use Rattle.wire.proofs.Bytes.{join-within, within-join}
use Rattle.format.specs.Machines.{arm64ec, first_machine, native_machine}
use Rattle.format.specs.Exports.{Export, dll_name, first_exports, native_exports}
use Rattle.format.specs.Plan.{Plan, plain, deferred, refused, kind, public_name, choose, plan_public, plan}
use Rattle.format.specs.Layouts.{Member, descriptor, null_descriptor, null_thunk, short, weak}
use Rattle.format.specs.Library.{Options, imp, answers_to, final, last_answering, short_member, alias_members, alias_or_short, deferred_member, shorts, deferreds, members_of, first_members, native_members, member_set}
use Rattle.format.specs.Refusals.{check_exports}
use Rattle.format.specs.Lookup.{shown, symbols, list_of, lookup_set, lookup, Placed, read_set}
use Rattle.format.specs.Demands.{by_name, not_found, nowhere, leads, told, asks, Leading, to, short_leads, alias_leads, leadings, Asked, Defines, Distinct, Plainly, Kept, Closed, Demand3, Promised}
use Rattle.laws.proofs.Accepted.{GoodExport, accepted}
use Rattle.laws.proofs.Plans.{choice-final, PlanBounds, of-deferred, plan-bounds}
use Rattle.laws.proofs.Members.{last-answering}
use Rattle.laws.proofs.Sets.{Listed, written-read, read_back, first-listed, native-listed}
use Rattle.laws.proofs.Leads.{entry_of, definer_in, steps_to, leads_in, lookup_in-means}
use Rattle.laws.proofs.Asks.{asks-plain, asks-deferred}
use Rattle.laws.proofs.Definers.{member-among, among-member, finds, definer-defines, short-leads, weak-leads, undefined}

-- ---- plans

-- a plan that answers to a name is a short import's
pub record IsPlain (p : Plan) : Type 0 where
  pub f : Bytes
  pub t : ℕ
  pub x : Bytes
  pub is : p ≡ plain f t x

pub answers-is : (wanted : Bytes) (p : Plan) → answers_to wanted p ≡ true → IsPlain p
unfolding answers_to
answers-is wanted (plain f t x) e = record { f = f; t = t; x = x; is = refl }
answers-is wanted (deferred p w) e = let z : ◌≡◌ {A = ℕ} 0 1 = cc in absurd (omega arith)
answers-is wanted (refused n) e = let z : ◌≡◌ {A = ℕ} 0 1 = cc in absurd (omega arith)

pub plain-public : (machine : ℕ) (mingw : Bool) (e : Export) (f x : Bytes) (t : ℕ) → eqb machine arm64ec ≡ false → plan machine mingw e ≡ plain f t x → public_name e ≡ some f
unfolding plan plan_public
plain-public machine mingw e f x t m h = pick (public_name e) refl h
  where
    pick : (q : Option Bytes) → public_name e ≡ q → plan_public machine mingw e q ≡ plain f t x → public_name e ≡ some f
    pick none g h = cc
    pick (some []) g h = cc
    pick (some (c ∷ cs)) g h = g ∙ ap some (choice-final machine e (c ∷ cs) f x t (choose machine mingw e (c ∷ cs)) m h)

deferred-native : (machine : ℕ) (mingw : Bool) (e : Export) (p w : Bytes) → GoodExport e → plan machine mingw e ≡ deferred p w → eqb machine arm64ec ≡ false
deferred-native machine mingw e p w a h = take-native (subst (PlanBounds machine) h (plan-bounds machine mingw e a))
  where
    take-native : PlanBounds machine (deferred p w) → eqb machine arm64ec ≡ false
    take-native (of-deferred b) = b.native

-- ---- one list

module _ (machine : ℕ) (mingw : Bool) (dll : Bytes) (es : List Export) where
  abbrev ms : List Member
  ms = members_of machine mingw dll es

  -- an export's short import is a member, and so are its deferred members
  short-in : (e : Export) (m : Member) (p : Plan) → Memᴰ e es → plan machine mingw e ≡ p → Memᴰ m (short_member machine dll e p) → Memᴰ m ms
  unfolding members_of shorts
  short-in e m p i h j =
      mathlib.Core.List.Memᴰ.append_left (deferreds machine mingw dll es)
      (within-join (λ (e : Export). short_member machine dll e (plan machine mingw e)) e es m i (rw h j))

  deferred-in : (e : Export) (m : Member) (p : Plan) → Memᴰ e es → plan machine mingw e ≡ p → Memᴰ m (deferred_member machine mingw dll es e p) → Memᴰ m ms
  unfolding members_of deferreds
  deferred-in e m p i h j =
      mathlib.Core.List.Memᴰ.append_right (shorts machine mingw dll es)
      (within-join (λ (e : Export). deferred_member machine mingw dll es e (plan machine mingw e)) e es m i (rw h j))

  plain-in : (e : Export) (f x : Bytes) (t : ℕ) → Memᴰ e es → plan machine mingw e ≡ plain f t x → Memᴰ (short machine e.ordinal (kind e) t f dll x) ms
  unfolding short_member
  plain-in e f x t i h = short-in e (short machine e.ordinal (kind e) t f dll x) (plain f t x) i h (mathlib.Core.List.Memᴰ.head refl)

  exported-in : (e : Export) (p w : Bytes) → Memᴰ e es → plan machine mingw e ≡ deferred p w → last_answering machine mingw w es ≡ none
      → Memᴰ (short machine e.ordinal (kind e) 4 p dll w) ms
  unfolding deferred_member alias_or_short
  exported-in e p w i h q = deferred-in e (short machine e.ordinal (kind e) 4 p dll w) (deferred p w) i h (rw q (mathlib.Core.List.Memᴰ.head refl))

  module _ (e a : Export) (p w f x : Bytes) (t : ℕ) (i : Memᴰ e es) (h : plan machine mingw e ≡ deferred p w)
      (q : last_answering machine mingw w es ≡ some a) (r : plan machine mingw a ≡ plain f t x) where
    prefixed-in : Memᴰ (weak machine (imp f) (imp p)) ms
    unfolding deferred_member alias_or_short alias_members final
    prefixed-in =
        deferred-in e (weak machine (imp f) (imp p)) (deferred p w) i h
        (rw (q, r) (mathlib.Core.List.Memᴰ.append_right (if eqb (kind e) 0 then weak machine f p ∷ [] else []) (mathlib.Core.List.Memᴰ.head refl)))

    unprefixed-in : eqb (kind e) 0 ≡ true → Memᴰ (weak machine f p) ms
    unfolding deferred_member alias_or_short alias_members final
    unprefixed-in code = deferred-in e (weak machine f p) (deferred p w) i h (rw (q, r, code) (mathlib.Core.List.Memᴰ.head refl))

  -- a short member of the list has its machine
  abbrev OfMachine : Member → Type 0
  OfMachine m = (m' o k t : ℕ) (s d x : Bytes) → m ≡ short m' o k t s d x → m' ≡ machine

  alias-machine : (k : ℕ) (t p : Bytes) (m : Member) → Memᴰ m (alias_members machine k t p) → OfMachine m
  unfolding alias_members
  alias-machine k t p m i m' o k' t' s d x e =
      ⊎_elim (λ j. unprefixed (eqb k 0) j) prefixed (mathlib.Core.List.Memᴰ.append_cases (if eqb k 0 then weak machine t p ∷ [] else []) i)
    where
      prefixed : Memᴰ m (weak machine (imp t) (imp p) ∷ []) → m' ≡ machine
      prefixed j = let z = mathlib.Core.List.Memᴰ.eq_of_singleton j in cc

      unprefixed : (q : Bool) → Memᴰ m (if q then weak machine t p ∷ [] else []) → m' ≡ machine
      unprefixed true j = let z = mathlib.Core.List.Memᴰ.eq_of_singleton j in cc
      unprefixed false j = absurd (mathlib.Core.List.Memᴰ.not-nil j)

  short-machine : (m : Member) (e : Export) (p : Plan) → Memᴰ m (short_member machine dll e p) → OfMachine m
  unfolding short_member
  short-machine m e (plain f t x) i m' o k' t' s d x' q = let z = mathlib.Core.List.Memᴰ.eq_of_singleton i in cc
  short-machine m e (deferred p w) i m' o k' t' s d x' q = absurd (mathlib.Core.List.Memᴰ.not-nil i)
  short-machine m e (refused n) i m' o k' t' s d x' q = absurd (mathlib.Core.List.Memᴰ.not-nil i)

  or-short-machine : (m : Member) (e : Export) (p w : Bytes) (a : Option Export) → Memᴰ m (alias_or_short machine mingw dll e p w a) → OfMachine m
  unfolding alias_or_short
  or-short-machine m e p w none i m' o k' t' s d x' q = let z = mathlib.Core.List.Memᴰ.eq_of_singleton i in cc
  or-short-machine m e p w (some a) i m' o k' t' s d x' q = alias-machine (kind e) (final (plan machine mingw a)) p m i m' o k' t' s d x' q

  deferred-machine : (m : Member) (e : Export) (p : Plan) → Memᴰ m (deferred_member machine mingw dll es e p) → OfMachine m
  unfolding deferred_member
  deferred-machine m e (plain f t x) i = absurd (mathlib.Core.List.Memᴰ.not-nil i)
  deferred-machine m e (deferred p w) i = or-short-machine m e p w (last_answering machine mingw w es) i
  deferred-machine m e (refused n) i = absurd (mathlib.Core.List.Memᴰ.not-nil i)

  of-machine : (m : Member) → Memᴰ m ms → OfMachine m
  unfolding members_of shorts deferreds
  of-machine m i =
      ⊎_elim
      (λ j.
      let w = join-within (λ (e : Export). short_member machine dll e (plan machine mingw e)) es m j in
      short-machine m w.of (plan machine mingw w.of) w.there)
      (λ j.
      let w = join-within (λ (e : Export). deferred_member machine mingw dll es e (plan machine mingw e)) es m j in
      deferred-machine m w.of (plan machine mingw w.of) w.there)
      (mathlib.Core.List.Memᴰ.append_cases (shorts machine mingw dll es) i)

  -- ---- off ARM64EC: the symbols of a short import

  imp-defined : (o k t : ℕ) (f d x : Bytes) → eqb machine arm64ec ≡ false → Defines (imp f) (short machine o k t f d x)
  unfolding symbols shown
  imp-defined o k t f d x m = simp m (member-among (imp f) _ (mathlib.Core.List.Memᴰ.head refl))

  self-defined : (o k t : ℕ) (f d x : Bytes) → eqb machine arm64ec ≡ false → eqb k 1 ≡ false → Defines f (short machine o k t f d x)
  unfolding symbols shown
  self-defined o k t f d x m n = simp (m, n) (member-among f (imp f ∷ f ∷ []) (mathlib.Core.List.Memᴰ.tail (mathlib.Core.List.Memᴰ.head refl)))

  defined-by : (o k t : ℕ) (s f d x : Bytes) → eqb machine arm64ec ≡ false → Defines f (short machine o k t s d x) → (f ≡ imp s) ⊎ ((eqb k 1 ≡ false) × (f ≡ s))
  unfolding symbols shown
  defined-by o k t s f d x m h = pick (eqb k 1) refl (among-member f _ (rw m at h))
    where
      pick : (q : Bool) → eqb k 1 ≡ q → Memᴰ f (imp s ∷ (if q then [] else s ∷ [])) → (f ≡ imp s) ⊎ ((eqb k 1 ≡ false) × (f ≡ s))
      pick true n i = inl (mathlib.Core.List.Memᴰ.eq_of_singleton i)
      pick false n i = ⊎_elim (λ e. inl e) (λ j. inr (n, mathlib.Core.List.Memᴰ.eq_of_singleton j)) (mathlib.Core.List.Memᴰ.cases_cons i)

  module _ (goods : (e : Export) → Memᴰ e es → GoodExport e) (distinct : Distinct ms) (plainly : Plainly es) where
    -- ---- an alias of the import a, whose short import has the final name f

    module _ (a : Export) (f x : Bytes) (t : ℕ) (m : eqb machine arm64ec ≡ false) (i : Memᴰ a es) (r : plan machine mingw a ≡ plain f t x) where
      abbrev import : Member
      import = short machine a.ordinal (kind a) t f dll x

      asked : leads (entry_of a.ordinal t f x) ≡ leads (asks machine mingw a)
      asked = ap leads (sym (asks-plain machine mingw a f x t r))

      steps-imp : steps_to (definer_in ms (imp f)) ≡ leads (asks machine mingw a)
      unfolding steps_to
      steps-imp = rw (finds ms import (imp f) distinct (plain-in a f x t i r) (imp-defined a.ordinal (kind a) t f dll x m)) asked

      steps-self : eqb (kind a) 1 ≡ false → steps_to (definer_in ms f) ≡ leads (asks machine mingw a)
      unfolding steps_to
      steps-self n = rw (finds ms import f distinct (plain-in a f x t i r) (self-defined a.ordinal (kind a) t f dll x m n)) asked

      -- no other short import defines f where a is data
      alone : eqb (kind a) 1 ≡ true → (m' o k t' : ℕ) (s d x' : Bytes) → definer_in ms f ≡ some (short m' o k t' s d x') → ⊥
      alone datum m' o k t' s d x' e =
          let (j, h) = definer-defines ms f (short m' o k t' s d x') e in
          let q : m' ≡ machine = of-machine (short m' o k t' s d x') j m' o k t' s d x' refl in
          let h' : Defines f (short machine o k t' s d x') = subst (λ (n : ℕ). Defines f (short n o k t' s d x')) q h in
          let j' : Memᴰ (short machine o k t' s d x') ms = subst (λ (n : ℕ). Memᴰ (short n o k t' s d x') ms) q j in
          ⊎_elim
          (λ p. plainly.unprefixed a s i (plain-public machine mingw a f x t m r ∙ ap some p))
          (λ p. twice o k t' s d x' j' p.0 p.1)
          (defined-by o k t' s f d x' m h')
        where
          twice : (o k t' : ℕ) (s d x' : Bytes) → Memᴰ (short machine o k t' s d x') ms → eqb k 1 ≡ false → f ≡ s → ⊥
          twice o k t' s d x' j n p =
              let first = finds ms import (imp f) distinct (plain-in a f x t i r) (imp-defined a.ordinal (kind a) t f dll x m) in
              let other = finds ms (short machine o k t' s d x') (imp f) distinct j (rw p (imp-defined o k t' s d x' m)) in
              let same : kind a ≡ k = cc in
              let z : ◌≡◌ {A = Bool} true false = sym datum ∙ ap (λ (n : ℕ). eqb n 1) same ∙ n in
              let y : ◌≡◌ {A = ℕ} 0 1 = cc in
              omega arith

      steps-nowhere : eqb (kind a) 1 ≡ true → steps_to (definer_in ms f) ≡ nowhere
      unfolding steps_to
      steps-nowhere datum = pick (definer_in ms f) refl
        where
          pick : (q : Option Member) → definer_in ms f ≡ q → steps_to q ≡ nowhere
          pick none e = refl
          pick (some (descriptor m dll compat)) e = refl
          pick (some (null_descriptor m s)) e = refl
          pick (some (null_thunk m s)) e = refl
          pick (some (short m' o k t' s d x')) e = absurd (alone datum m' o k t' s d x' e)
          pick (some (weak m target alias)) e = refl

      steps-by-kind : steps_to (definer_in ms f) ≡ (if eqb (kind a) 1 then nowhere else leads (asks machine mingw a))
      steps-by-kind = pick (eqb (kind a) 1) refl
        where
          pick : (q : Bool) → eqb (kind a) 1 ≡ q → steps_to (definer_in ms f) ≡ (if q then nowhere else leads (asks machine mingw a))
          pick true h = steps-nowhere h
          pick false h = steps-self h

    -- ---- each symbol of an export leads where it should

    -- the symbols of a short import of the list
    short-led : (e : Export) (t : ℕ) (s x : Bytes) (l : Leading) → Memᴰ (short machine e.ordinal (kind e) t s dll x) ms
        → asks machine mingw e ≡ entry_of e.ordinal t s x → Memᴰ l (short_leads machine mingw e t s) → leads_in ms l.symbol ≡ l.leads_to
    unfolding symbols
    short-led e t s x l i q j =
        let (y, k, is) = mathlib.Core.List.Memᴰ.of_map (to (leads (asks machine mingw e))) (symbols (short machine e.ordinal (kind e) t s [] [])) j in
        rw (← is) (short-leads ms machine e.ordinal (kind e) t s dll x y distinct i (member-among y _ k) ∙ ap leads (sym q))

    alias-led : (e : Export) (p w : Bytes) (a : Option Export) (l : Leading) → Memᴰ e es → plan machine mingw e ≡ deferred p w → last_answering machine mingw w es ≡ a
        → Memᴰ l (alias_leads machine mingw e p a) → leads_in ms l.symbol ≡ l.leads_to
    unfolding alias_leads entry_of
    alias-led e p w none l i h q j = short-led e 4 p w l (exported-in e p w i h q) (asks-deferred machine mingw e p w h ∙ exported-entry) j
      where
        exported-entry : by_name w ≡ entry_of e.ordinal 4 p w
        exported-entry = refl
    alias-led e p w (some a) l i h q j =
        let r = last-answering machine mingw w es a q in
        let s = answers-is w (plan machine mingw a) r.answers in
        let m = deferred-native machine mingw e p w (goods e i) h in
        ⊎_elim
        (λ is. rw is (weak-leads ms machine (imp s.f) (imp p) distinct (prefixed-in e a p w s.f s.x s.t i h q s.is) ∙ steps-imp a s.f s.x s.t m r.listed s.is))
        (λ k. unprefixed s.f s.x s.t m r.listed s.is (eqb (kind e) 0) refl k)
        (mathlib.Core.List.Memᴰ.cases_cons j)
      where
        unprefixed : (f x : Bytes) (t : ℕ) → eqb machine arm64ec ≡ false → Memᴰ a es → plan machine mingw a ≡ plain f t x → (c : Bool) → eqb (kind e) 0 ≡ c
            → Memᴰ l (if c then to (if eqb (kind a) 1 then nowhere else leads (asks machine mingw a)) p ∷ [] else []) → leads_in ms l.symbol ≡ l.leads_to
        unprefixed f x t m ia r true code k =
            rw (mathlib.Core.List.Memᴰ.eq_of_singleton k)
            (weak-leads ms machine f p distinct (unprefixed-in e a p w f x t i h q r code) ∙ steps-by-kind a f x t m ia r)
        unprefixed f x t m ia r false code k = absurd (mathlib.Core.List.Memᴰ.not-nil k)

    export-led : (e : Export) (p : Plan) (l : Leading) → Memᴰ e es → plan machine mingw e ≡ p → Memᴰ l (leadings machine mingw es e p) → leads_in ms l.symbol ≡ l.leads_to
    unfolding leadings
    export-led e (plain f t x) l i h j = short-led e t f x l (plain-in e f x t i h) (asks-plain machine mingw e f x t h) j
    export-led e (deferred p w) l i h j = alias-led e p w (last_answering machine mingw w es) l i h refl j
    export-led e (refused n) l i h j = absurd (mathlib.Core.List.Memᴰ.not-nil j)

    pub list-led : (l : Leading) → Asked machine mingw es l → leads_in ms l.symbol ≡ l.leads_to
    list-led l a = export-led a.by (plan machine mingw a.by) l a.listed refl a.symbol_of

  -- ---- any other symbol is found in no member

  -- a symbol that a member of the list defines is the symbol of an export
  abbrev SymbolOf : Bytes → Type 0
  SymbolOf s = (l : Leading) × (Asked machine mingw es l × (l.symbol ≡ s))

  leading-of : (e : Export) (p : Plan) (l : Leading) (s : Bytes) → Memᴰ e es → plan machine mingw e ≡ p → Memᴰ l (leadings machine mingw es e p) → l.symbol ≡ s → SymbolOf s
  leading-of e p l s i h j q = (l, (record { by = e; listed = i; symbol_of = rw h j }, q))

  short-symbol : (e : Export) (p : Plan) (o k t : ℕ) (f d x s : Bytes) → Memᴰ e es → plan machine mingw e ≡ p
      → ((l : Leading) → Memᴰ l (short_leads machine mingw e t f) → Memᴰ l (leadings machine mingw es e p))
      → Defines s (short machine o (kind e) t f d x) → SymbolOf s
  unfolding symbols
  short-symbol e p o k t f d x s i h sub g =
      leading-of e p (to (leads (asks machine mingw e)) s) s i h
      (sub (to (leads (asks machine mingw e)) s) (mathlib.Core.List.Memᴰ.map (to (leads (asks machine mingw e))) (among-member s _ g))) refl

  plain-symbol : (e : Export) (p : Plan) (m : Member) (s : Bytes) → Memᴰ e es → plan machine mingw e ≡ p → Memᴰ m (short_member machine dll e p) → Defines s m → SymbolOf s
  unfolding short_member leadings
  plain-symbol e (plain f t x) m s i h j g =
      short-symbol e (plain f t x) e.ordinal 0 t f dll x s i h (λ l k. k) (subst (λ (n : Member). Defines s n) (mathlib.Core.List.Memᴰ.eq_of_singleton j) g)
  plain-symbol e (deferred p w) m s i h j g = absurd (mathlib.Core.List.Memᴰ.not-nil j)
  plain-symbol e (refused n) m s i h j g = absurd (mathlib.Core.List.Memᴰ.not-nil j)

  alias-symbol : (e : Export) (p w : Bytes) (a : Option Export) (m : Member) (s : Bytes) → Memᴰ e es → plan machine mingw e ≡ deferred p w
      → last_answering machine mingw w es ≡ a → Memᴰ m (alias_or_short machine mingw dll e p w a) → Defines s m → SymbolOf s
  unfolding alias_or_short leadings alias_leads alias_members symbols
  alias-symbol e p w none m s i h q j g =
      short-symbol e (deferred p w) e.ordinal 0 4 p dll w s i h (λ l k. rw q k) (subst (λ (n : Member). Defines s n) (mathlib.Core.List.Memᴰ.eq_of_singleton j) g)
  alias-symbol e p w (some a) m s i h q j g =
      ⊎_elim (λ k. unprefixed (eqb (kind e) 0) refl k) prefixed
      (mathlib.Core.List.Memᴰ.append_cases (if eqb (kind e) 0 then weak machine (final (plan machine mingw a)) p ∷ [] else []) j)
    where
      alias-is : (t y : Bytes) → m ≡ weak machine t y → y ≡ s
      alias-is t y e = sym (mathlib.Core.List.Memᴰ.eq_of_singleton (among-member s (y ∷ []) (subst (λ (n : Member). Defines s n) e g)))

      prefixed : Memᴰ m (weak machine (imp (final (plan machine mingw a))) (imp p) ∷ []) → SymbolOf s
      prefixed k =
          leading-of e (deferred p w) (to (leads (asks machine mingw a)) (imp p)) s i h (rw q (mathlib.Core.List.Memᴰ.head refl))
          (alias-is (imp (final (plan machine mingw a))) (imp p) (mathlib.Core.List.Memᴰ.eq_of_singleton k))

      unprefixed : (c : Bool) → eqb (kind e) 0 ≡ c → Memᴰ m (if c then weak machine (final (plan machine mingw a)) p ∷ [] else []) → SymbolOf s
      unprefixed true code k =
          leading-of e (deferred p w) (to (if eqb (kind a) 1 then nowhere else leads (asks machine mingw a)) p) s i h
          (rw (q, code) (mathlib.Core.List.Memᴰ.tail (mathlib.Core.List.Memᴰ.head refl))) (alias-is (final (plan machine mingw a)) p (mathlib.Core.List.Memᴰ.eq_of_singleton k))
      unprefixed false code k = absurd (mathlib.Core.List.Memᴰ.not-nil k)

  deferred-symbol : (e : Export) (p : Plan) (m : Member) (s : Bytes) → Memᴰ e es → plan machine mingw e ≡ p → Memᴰ m (deferred_member machine mingw dll es e p)
      → Defines s m → SymbolOf s
  unfolding deferred_member
  deferred-symbol e (plain f t x) m s i h j g = absurd (mathlib.Core.List.Memᴰ.not-nil j)
  deferred-symbol e (deferred p w) m s i h j g = alias-symbol e p w (last_answering machine mingw w es) m s i h refl j g
  deferred-symbol e (refused n) m s i h j g = absurd (mathlib.Core.List.Memᴰ.not-nil j)

  pub member-symbol : (m : Member) (s : Bytes) → Memᴰ m ms → Defines s m → SymbolOf s
  unfolding members_of shorts deferreds
  member-symbol m s i g =
      ⊎_elim
      (λ j.
      let w = join-within (λ (e : Export). short_member machine dll e (plan machine mingw e)) es m j in
      plain-symbol w.of (plan machine mingw w.of) m s w.listed refl w.there g)
      (λ j.
      let w = join-within (λ (e : Export). deferred_member machine mingw dll es e (plan machine mingw e)) es m j in
      deferred-symbol w.of (plan machine mingw w.of) m s w.listed refl w.there g)
      (mathlib.Core.List.Memᴰ.append_cases (shorts machine mingw dll es) i)

  pub list-others : (s : Bytes) → ((l : Leading) → Asked machine mingw es l → l.symbol ≡ s → ⊥) → leads_in ms s ≡ not_found
  list-others s h = undefined ms s (λ m i g. let (l, (a, q)) = member-symbol m s i g in h l a q)

-- ---- from the written bytes

-- a list of a set that is read, with its members
module _ (set : Bytes) (number machine : ℕ) (mingw : Bool) (dll : Bytes) (es : List Export) (ps : List Placed) (r : read_set set ≡ some ps)
    (l : Listed set number ps (members_of machine mingw dll es)) where
  means : (s : Bytes) → told set (lookup set number s) ≡ leads_in (members_of machine mingw dll es) s
  unfolding lookup lookup_set told
  means s = rw r (lookup_in-means set (list_of set number ps) l.stand s ∙ ap (λ (ms : List Member). leads_in ms s) l.members)

  list-kept : ((e : Export) → Memᴰ e es → GoodExport e) → Distinct (members_of machine mingw dll es) → Plainly es → Kept set number machine mingw es
  list-kept goods d p = record { led = λ a i. means a.symbol ∙ list-led machine mingw dll es goods d p a i }

  list-closed : Closed set number machine mingw es
  list-closed = record { others = λ s h. means s ∙ list-others machine mingw dll es s h }

pub demand3 : (o : Options) (b : Bytes) → Octets b → check_exports o b ≡ Ok tt → Demand3 o b
unfolding first_members native_members
demand3 o b small e =
    let read = written-read o b small e in
    let one = first-listed o b small e in
    let two = native-listed o b small e in
    let m₁ = first_machine o.machine in
    let m₂ = native_machine o.machine in
    record {
      first = λ d p. list-kept (member_set o b) 1 m₁ o.mingw (dll_name b) (first_exports b) _ read one (accepted o b e).firsts d p;
      native = λ d p. list-kept (member_set o b) 2 m₂ o.mingw (dll_name b) (native_exports b) _ read two (accepted o b e).natives d p;
      first_closed = list-closed (member_set o b) 1 m₁ o.mingw (dll_name b) (first_exports b) _ read one;
      native_closed = list-closed (member_set o b) 2 m₂ o.mingw (dll_name b) (native_exports b) _ read two;
    }

-- demands 2 and 3 of every list of bytes that is accepted
pub promised : (o : Options) (b : Bytes) → Promised o b
promised o b = record { read_back = read_back o b; leading = demand3 o b }
