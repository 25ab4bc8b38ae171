-- The lookup by numbers is the lookup; and an answered name lies within the set.
use Rattle.std.specs.Prelude.{if◌then◌else◌, None, Some, MatchOption, Result, Ok, Err}
use Rattle.std.specs.Prelude as std
use Rattle.std.proofs.Common.{Bor}
use Prim.Native.Nat.{ℕ, zero, suc, ◌+◌, ◌-◌, ◌≤◌, ◌<◌}
use mathlib.Core.Path.{◌≡◌, refl, sym, ap, ap₂, ◌∙◌, subst}
use mathlib.Core.Bool.{Bool, true, false}
use mathlib.Core.Option.{Option, none, some, map}
use mathlib.Core.List.{List, [], ◌∷◌}
use native.Mathlib.Nat.{add-zero, zero-add}
use native.Mathlib.Decide.{ℕ_discrete}
use native.Mathlib.Omega.{arith}
use lib.ListN.{length, take, drop}
use lib.Dec.{eqb}
use borrow.Author.Tests.{eq-eqb, ne_eqb}
use Rattle.wire.specs.Bytes.{Bytes, part, first, is_some}
use Rattle.format.specs.Names.{apply, dropped}
use Rattle.format.specs.Layouts.{Member, descriptor, null_descriptor, null_thunk, short, weak}
use Rattle.format.specs.Reader.{read, span}
use Rattle.format.specs.Lookup.{Placed, offset_at, length_at, set_count, set_firsts, set_natives, laid_out, symbols, among, place_first, read_from, read_set, list_of, definer, entry, stepped, step, answered, answer, lookup_in, lookup_set, lookup}
use Rattle.format.specs.Demands.{LookedUp}
use Rattle.format.specs.declared.Span.{Span}
use Rattle.format.specs.declared.Looked.{Looked}
use Rattle.format.specs.declared.Looked.TheVariants.{NotFound, Nowhere, Ordinal, Name}
use Rattle.laws.proofs.Names.{first-at}
use Rattle.laws.proofs.Leads.{apply-within}
use Rattle.laws.proofs.Lengths.{length-encode-short}
use Rattle.laws.proofs.ReadBack.{read-sound}
use Rattle.search.specs.Search.{place_of}
use Rattle.format.specs.Refusals.{refusal}
use Rattle.format.specs.declared.Reason.TheVariants.{NotASet}
use Rattle.format.specs.declared.Refusal.{Refusal}
use Rattle.search.proofs.Searches.{first-here, first-later, place-at, place-nowhere}
use Rattle.lookup.specs.Numbered.{bytes_of, member_at, symbols_of, defines_at, definer_from, entry_by, led_by, led_at, step_from, answer_from, looked_from, led_as, Leads, if_set}
use Rattle.lookup.specs.declared.Lead.{Lead}
use Rattle.lookup.specs.declared.Lead.TheVariants as L
use Rattle.lookup.proofs.Laying.{laid-count, laid-member, length-bytes_of}
use Rattle.lookup.proofs.Saying.{Mute, SaidShort, SaidWeak}
use Rattle.lookup.proofs.Ordering.{Valid, valid}

-- ---- the first that defines a symbol, one after another up to the n-th

module _ (b s : Bytes) (i n : ℕ) where
  pub definer-here : i < n → defines_at b s i ≡ true → definer_from b s i (n - i) ≡ some i
  unfolding definer_from
  definer-here h e = first-here (defines_at b s) i n h e

  pub definer-later : i < n → defines_at b s i ≡ false → definer_from b s i (n - i) ≡ definer_from b s (i + 1) (n - (i + 1))
  unfolding definer_from
  definer-later h e = first-later (defines_at b s) i n h e

  pub definer-end : n ≤ i → definer_from b s i (n - i) ≡ none
  unfolding definer_from first
  definer-end h =
      let q : n - i ≡ 0 = omega arith in
      ap (first (defines_at b s) i) q

-- by the outcomes of a search
module _ (b s : Bytes) where
  definer-none : (i n : ℕ) → ((k : ℕ) → i ≤ k → k < i + n → defines_at b s k ≡ false) → definer_from b s i n ≡ none
  unfolding definer_from first
  definer-none i zero h = refl
  definer-none i (suc n) h =
      let here : defines_at b s i ≡ false = h i (omega arith) (omega arith) in
      rw here (definer-none (i + 1) n (λ k low high. h k (omega arith) (omega arith)))

  definer-some : (i n j : ℕ) → i ≤ j → j < i + n → defines_at b s j ≡ true → ((k : ℕ) → i ≤ k → k < j → defines_at b s k ≡ false)
      → definer_from b s i n ≡ some j
  unfolding definer_from first
  definer-some i zero j low high e h = absurd (omega arith)
  definer-some i (suc n) j low high e h =
      pick (ℕ_discrete i j) (λ l g. definer-some (i + 1) n j l (omega arith) e g)
    where
      pick : Dec (i ≡ j) → (i + 1 ≤ j → ((k : ℕ) → i + 1 ≤ k → k < j → defines_at b s k ≡ false) → first (defines_at b s) (i + 1) n ≡ some j)
          → (if defines_at b s i then some i else first (defines_at b s) (i + 1) n) ≡ some j
      pick (yes q) ih =
          let here : defines_at b s i ≡ true = ap (defines_at b s) q ∙ e in
          rw here (ap some q)
      pick (no q) ih =
          let here : defines_at b s i ≡ false = h i (omega arith) (omega arith) in
          rw here (ih (omega arith) (λ k l g. h k (omega arith) g))

  pub definer-searched : (i n : ℕ) (r : std.Option ℕ) → i ≤ n
      → MatchOption r ((k : ℕ) → i ≤ k → k < n → defines_at b s k ≡ false)
      (λ j. (i ≤ j) × (j < n) × (defines_at b s j ≡ true) × ((k : ℕ) → i ≤ k → k < j → defines_at b s k ≡ false))
      → r ≡ place_of (definer_from b s i (n - i))
  definer-searched i n None h m = sym (ap place_of (definer-none i (n - i) (λ k low high. m k low (omega arith))))
  definer-searched i n (Some j) h m = sym (ap place_of (definer-some i (n - i) j m.0 (omega (arith, m.1)) m.2 m.3))

pub definer-at : (b s : Bytes) (i n j : ℕ) → definer_from b s i n ≡ some j → j < i + n
unfolding definer_from
definer-at b s i n j e = (first-at (defines_at b s) i n j e).below

pub definer-below : (b s : Bytes) (i n j : ℕ) → i ≤ n → place_of (definer_from b s i (n - i)) ≡ Some j → j < n
definer-below b s i n j h e = omega (arith, definer-at b s i (n - i) j (place-at _ j e))

pub defines-at : {t : Bool} {m : Bytes} (b s : Bytes) (i : ℕ) → t ≡ among s (symbols_of (read m)) → m ≡ bytes_of b i → t ≡ defines_at b s i
unfolding defines_at member_at
defines-at b s i e f = e ∙ ap (λ (m : Bytes). among s (symbols_of (read m))) f

module _ (b s : Bytes) (i : ℕ) {m : Bytes} where
  pub defines-yes : true ≡ among s (symbols_of (read m)) → m ≡ bytes_of b i → defines_at b s i ≡ true
  defines-yes e f = sym (defines-at b s i e f)

  pub defines-no : false ≡ among s (symbols_of (read m)) → m ≡ bytes_of b i → defines_at b s i ≡ false
  defines-no e f = sym (defines-at b s i e f)

-- ---- where a member leads

module _ {m : Bytes} (b : Bytes) (j : ℕ) (f : m ≡ bytes_of b j) where
  led-read : (other : Looked) (weakly : Bytes → Looked) → led_by other weakly (offset_at b j) (read m) ≡ led_by other weakly (offset_at b j) (member_at b j)
  unfolding member_at
  led-read other weakly = ap (λ (m : Bytes). led_by other weakly (offset_at b j) (read m)) f

  pub led-mute : Mute m → Leads b j None
  led-mute h = record { leads = λ other weakly. h.leads other weakly (offset_at b j) ∙ led-read other weakly }

  pub led-weak : {k : ℕ} {target alias : Span} (t : Bor Bytes) → SaidWeak m k target alias → t.now ≡ part m target.start target.length
      → Leads b j (Some (L.Target t))
  unfolding led_by
  led-weak t h g =
      record {
        leads = λ other weakly. ap weakly g ∙ sym (ap (led_by other weakly (offset_at b j)) h.is) ∙ led-read other weakly;
      }

  pub led-short : {r : Looked} {at k o t y : ℕ} {p x : Span} → SaidShort m k o t y p x → at ≡ offset_at b j
      → r ≡ entry_by at o t p.start (part m p.start p.length) x → Leads b j (Some (L.Answer r))
  unfolding led_by
  led-short {o = o} {t} {p = p} {x} h g r =
      record {
        leads = λ other weakly.
            r ∙ ap (λ (at : ℕ). entry_by at o t p.start (part m p.start p.length) x) g ∙ h.answers (offset_at b j)
            ∙ sym (ap (led_by other weakly (offset_at b j)) h.is) ∙ led-read other weakly;
      }

-- by which lead it is
pub led-at : {r : std.Option Lead} (b : Bytes) (j : ℕ) (q : std.Option Lead) → Leads b j r → r ≡ q → (other : Looked) (weakly : Bytes → Looked)
    → led_as other weakly q ≡ led_at b other weakly (some j)
unfolding led_at
led-at b j q h e other weakly = ap (led_as other weakly) (sym e) ∙ h.leads other weakly

-- ---- the members of a list, by their numbers

unfoldable placed_at : Bytes → Option ℕ → Option Placed
placed_at b none = none
placed_at b (some j) = map (λ (m : Member). record { at = offset_at b j; member = m }) (member_at b j)

definer-placed : (b s : Bytes) (i n : ℕ) (ps : List Placed) → read_from b i n ≡ some ps → definer ps s ≡ placed_at b (definer_from b s i n)
unfolding read_from place_first definer definer_from first defines_at symbols_of member_at bytes_of placed_at
definer-placed b s i zero ps e =
    let z : [] ≡ ps = cc in
    ap (λ (l : List Placed). definer l s) (sym z)
definer-placed b s i (suc n) ps e =
    pick (read (part b (offset_at b i) (length_at b i))) refl (read_from b (i + 1) n) refl e (definer-placed b s (i + 1) n)
  where
    pick : (m : Option Member) → member_at b i ≡ m → (q : Option (List Placed)) → read_from b (i + 1) n ≡ q → place_first (offset_at b i) m q ≡ some ps
        → ((ps : List Placed) → read_from b (i + 1) n ≡ some ps → definer ps s ≡ placed_at b (definer_from b s (i + 1) n))
        → definer ps s ≡ placed_at b (if among s (symbols_of (member_at b i)) then some i else definer_from b s (i + 1) n)
    pick none em q eq e ih = let z : ◌≡◌ {A = ℕ} 0 1 = cc in absurd (omega arith)
    pick (some m) em none eq e ih = let z : ◌≡◌ {A = ℕ} 0 1 = cc in absurd (omega arith)
    pick (some m) em (some qs) eq e ih =
        let z : record { at = offset_at b i; member = m } ∷ qs ≡ ps = cc in
        ap (λ (l : List Placed). definer l s) (sym z) ∙ rw em (here (among s (symbols m)) (ih qs eq))
      where
        here : (t : Bool) → definer qs s ≡ placed_at b (definer_from b s (i + 1) n)
            → (if t then some (record { at = offset_at b i; member = m }) else definer qs s) ≡ placed_at b (if t then some i else definer_from b s (i + 1) n)
        here true ih = sym (ap (map (λ (m : Member). record { at = offset_at b i; member = m })) em)
        here false ih = ih

step-placed : (b : Bytes) (q : Option ℕ) → step (placed_at b q) ≡ led_at b Nowhere (λ another. Nowhere) q
unfolding step stepped placed_at led_at led_by
step-placed b none = refl
step-placed b (some j) = pick (member_at b j)
  where
    pick : (m : Option Member)
        → step (map (λ (m : Member). record { at = offset_at b j; member = m }) m) ≡ led_by Nowhere (λ another. Nowhere) (offset_at b j) m
    pick none = refl
    pick (some (descriptor m dll compat)) = refl
    pick (some (null_descriptor m s)) = refl
    pick (some (null_thunk m s)) = refl
    pick (some (short m o k t s dll x)) = refl
    pick (some (weak m target alias)) = refl

module _ (b : Bytes) (i n : ℕ) (ps : List Placed) (e : read_from b i n ≡ some ps) where
  step-from : (s : Bytes) → step (definer ps s) ≡ step_from b i n s
  unfolding step_from
  step-from s = ap step (definer-placed b s i n ps e) ∙ step-placed b (definer_from b s i n)

  answer-placed : (q : Option ℕ) → answer ps (placed_at b q) ≡ led_at b NotFound (step_from b i n) q
  unfolding answer answered placed_at led_at led_by
  answer-placed none = refl
  answer-placed (some j) = pick (member_at b j)
    where
      pick : (m : Option Member)
          → answer ps (map (λ (m : Member). record { at = offset_at b j; member = m }) m) ≡ led_by NotFound (step_from b i n) (offset_at b j) m
      pick none = refl
      pick (some (descriptor m dll compat)) = refl
      pick (some (null_descriptor m s)) = refl
      pick (some (null_thunk m s)) = refl
      pick (some (short m o k t s dll x)) = refl
      pick (some (weak m target alias)) = step-from target

  lookup-from : (s : Bytes) → answer_from b i n s ≡ lookup_in ps s
  unfolding lookup_in answer_from
  lookup-from s = sym (ap (answer ps) (definer-placed b s i n ps e) ∙ answer-placed (definer_from b s i n))

-- as the functions have it
module _ (b : Bytes) (i n : ℕ) (s : Bytes) where
  pub step-none : place_of (definer_from b s i n) ≡ None → Nowhere ≡ step_from b i n s
  unfolding step_from led_at
  step-none e = rw (place-nowhere (definer_from b s i n) e)

  pub step-at : {r : Looked} (j : ℕ) → place_of (definer_from b s i n) ≡ Some j → r ≡ led_at b Nowhere (λ another. Nowhere) (some j) → r ≡ step_from b i n s
  unfolding step_from
  step-at j e g = g ∙ ap (led_at b Nowhere (λ another. Nowhere)) (sym (place-at (definer_from b s i n) j e))

  pub looked-refused : is_some (read_set b) ≡ false → Err (refusal NotASet 0) ≡ looked_from b i n s
  unfolding looked_from
  looked-refused e = rw e

  pub looked-none : is_some (read_set b) ≡ true → definer_from b s i n ≡ none → Ok NotFound ≡ looked_from b i n s
  unfolding looked_from answer_from led_at
  looked-none e f = rw (e, f)

  pub looked-at : {r : Looked} (j : ℕ) → is_some (read_set b) ≡ true → definer_from b s i n ≡ some j → r ≡ led_at b NotFound (step_from b i n) (some j) → Ok r ≡ looked_from b i n s
  unfolding looked_from answer_from
  looked-at j e f g = rw (e, f) (ap Ok g)

-- ---- the first of some members, and those after them

pub record Parted (b : Bytes) (i k n : ℕ) (ps : List Placed) : Type 0 where
  pub firsts : read_from b i k ≡ some (take k ps)
  pub others : read_from b (i + k) n ≡ some (drop k ps)

parted : (b : Bytes) (i k n m : ℕ) (ps : List Placed) → m ≡ k + n → read_from b i m ≡ some ps → Parted b i k n ps
unfolding read_from place_first
parted b i zero n m ps q e =
    let z : m ≡ n = omega arith in
    record { firsts = refl; others = ap (λ (k : ℕ). read_from b k n) (add-zero i) ∙ ap (read_from b i) (sym z) ∙ e }
parted b i (suc k) n zero ps q e = absurd (omega arith)
parted b i (suc k) n (suc m) ps q e =
    pick (read (part b (offset_at b i) (length_at b i))) refl (read_from b (i + 1) m) refl e (λ qs f. parted b (i + 1) k n m qs (omega arith) f)
  where
    pick : (r : Option Member) → read (part b (offset_at b i) (length_at b i)) ≡ r → (o : Option (List Placed)) → read_from b (i + 1) m ≡ o
        → place_first (offset_at b i) r o ≡ some ps → ((qs : List Placed) → read_from b (i + 1) m ≡ some qs → Parted b (i + 1) k n qs) → Parted b i (suc k) n ps
    pick none er o eo e ih = let z : ◌≡◌ {A = ℕ} 0 1 = cc in absurd (omega arith)
    pick (some r) er none eo e ih = let z : ◌≡◌ {A = ℕ} 0 1 = cc in absurd (omega arith)
    pick (some r) er (some qs) eo e ih =
        let z : record { at = offset_at b i; member = r } ∷ qs ≡ ps = cc in
        let place : i + suc k ≡ i + 1 + k = omega arith in
        let p = ih qs eo in
        rw (← z)
        (record {
          firsts = rw (er, p.firsts);
          others = ap (λ (k : ℕ). read_from b k n) place ∙ p.others;
        })

-- ---- the lookup

pub lookup-refused : (b : Bytes) (l : ℕ) (s : Bytes) → is_some (read_set b) ≡ false → Err (refusal NotASet 0) ≡ lookup b l s
unfolding lookup lookup_set is_some
lookup-refused b l s e = pick (read_set b) e
  where
    pick : (o : Option (List Placed)) → is_some o ≡ false → Err (refusal NotASet 0) ≡ lookup_set b l s o
    pick none e = refl
    pick (some ps) e = let z : ◌≡◌ {A = ℕ} 0 1 = cc in absurd (omega arith)

module _ (b : Bytes) (v : Valid b) (s : Bytes) where
  lookup-valid : (l : ℕ) → lookup b l s ≡ Ok (lookup_in (list_of b l v.members) s)
  unfolding lookup lookup_set
  lookup-valid l = ap (lookup_set b l s) v.are

  after-fixed : Parted b 0 3 (set_firsts b + set_natives b) v.members
  after-fixed = parted b 0 3 (set_firsts b + set_natives b) (set_count b) v.members (omega (arith, laid-count b v.laid)) v.read-as

  lookup-first : (l : ℕ) → l ≡ 1 → Ok (answer_from b 3 (3 + set_firsts b - 3) s) ≡ lookup b l s
  unfolding list_of
  lookup-first l e =
      let n : 3 + set_firsts b - 3 ≡ set_firsts b = omega arith in
      let p = parted b 3 (set_firsts b) (set_natives b) (set_firsts b + set_natives b) (drop 3 v.members) refl after-fixed.others in
      ap Ok (ap (λ (n : ℕ). answer_from b 3 n s) n ∙ lookup-from b 3 (set_firsts b) (take (set_firsts b) (drop 3 v.members)) p.firsts s)
      ∙ sym (lookup-valid l ∙ rw (eq-eqb l 1 e))

  lookup-native : (l : ℕ) → l ≡ 2 → Ok (answer_from b (3 + set_firsts b) (set_count b - (3 + set_firsts b)) s) ≡ lookup b l s
  unfolding list_of
  lookup-native l e =
      let n : set_count b - (3 + set_firsts b) ≡ set_natives b = omega (arith, laid-count b v.laid) in
      let p = parted b 0 (3 + set_firsts b) (set_natives b) (set_count b) v.members (laid-count b v.laid) v.read-as in
      ap Ok
      (ap (λ (n : ℕ). answer_from b (3 + set_firsts b) n s) n ∙ lookup-from b (3 + set_firsts b) (set_natives b) (drop (3 + set_firsts b) v.members)
      (ap (λ (k : ℕ). read_from b k (set_natives b)) (sym (zero-add (3 + set_firsts b))) ∙ p.others) s)
      ∙ sym (lookup-valid l ∙ rw e)

  lookup-other : (l : ℕ) → (l ≡ 1 → ⊥) → (l ≡ 2 → ⊥) → Ok NotFound ≡ lookup b l s
  unfolding list_of lookup_in answer definer
  lookup-other l n k = sym (lookup-valid l ∙ rw (ne_eqb l 1 n, ne_eqb l 2 k))

-- whether the bytes are a set or not, by the numbers that the code has
module _ (b : Bytes) (s : Bytes) (l : ℕ) where
  looked-by : (i n : ℕ) → (Valid b → Ok (answer_from b i n s) ≡ lookup b l s) → looked_from b i n s ≡ lookup b l s
  unfolding looked_from
  looked-by i n f = pick (is_some (read_set b)) refl
    where
      pick : (t : Bool) → is_some (read_set b) ≡ t → if_set t (answer_from b i n s) ≡ lookup b l s
      pick true e = f (valid b e)
      pick false e = lookup-refused b l s e

  pub looked-first : {r : Result Looked Refusal} {k : ℕ} → l ≡ 1 → k ≡ set_firsts b → r ≡ looked_from b 3 (3 + k - 3) s → r ≡ lookup b l s
  looked-first e f g = g ∙ ap (λ (k : ℕ). looked_from b 3 (3 + k - 3) s) f ∙ looked-by _ _ (λ v. lookup-first b v s l e)

  pub looked-native : {r : Result Looked Refusal} {k n : ℕ} → l ≡ 2 → k ≡ set_firsts b → n ≡ set_count b → r ≡ looked_from b (3 + k) (n - (3 + k)) s → r ≡ lookup b l s
  looked-native e f h g = g ∙ ap₂ (λ (k n : ℕ). looked_from b (3 + k) (n - (3 + k)) s) f h ∙ looked-by _ _ (λ v. lookup-native b v s l e)

  pub looked-other : (l ≡ 1 → ⊥) → (l ≡ 2 → ⊥) → is_some (read_set b) ≡ true → Ok NotFound ≡ lookup b l s
  looked-other n k e = lookup-other b (valid b e) s l n k

-- ---- an answered name lies within the set

-- an answer whose name, where it is one, ends at a place at most
abbrev Ends : ℕ → Looked → Type 0
Ends n NotFound = Unit {0}
Ends n Nowhere = Unit {0}
Ends n (Ordinal o) = Unit {0}
Ends n (Name s) = s.start + s.length ≤ n

abbrev AnswerEnds : ℕ → Result Looked Refusal → Type 0
AnswerEnds n (Ok l) = Ends n l
AnswerEnds n (Err r) = Unit {0}

entry-ends : (n at o t : ℕ) (s dll x : Bytes) → at + (22 + length s + length dll + (if eqb t 4 then length x + 1 else 0)) ≤ n → Ends n (entry at o t s dll x)
unfolding entry
entry-ends n at o t s dll x h = pick (eqb t 0) (eqb t 4) h
  where
    pick : (p q : Bool) → at + (22 + length s + length dll + (if q then length x + 1 else 0)) ≤ n
        → Ends n (if p then Ordinal o else if q then Name (span (at + 20 + (length s + 1) + (length dll + 1)) (length x)) else Name (span (at + 20 + dropped t s) (length (apply t s))))
    pick true q h = tt
    pick false true h = omega arith
    pick false false h = omega (arith, apply-within t s)

module _ (b : Bytes) (laid : laid_out b ≡ true) where
  short-ends : (j : ℕ) → j < set_count b → (m o k t : ℕ) (s dll x : Bytes) → member_at b j ≡ some (short m o k t s dll x) → Ends (length b) (entry (offset_at b j) o t s dll x)
  unfolding member_at
  short-ends j h m o k t s dll x e =
      entry-ends (length b) (offset_at b j) o t s dll x
      (omega (arith, laid-member b laid j h, length-bytes_of b laid j h, ap length (read-sound (bytes_of b j) _ e).is, length-encode-short m o k t s dll x))

  module _ (i n : ℕ) (h : i + n ≤ set_count b) where
    led-ends : (s : Bytes) (other : Looked) (weakly : Bytes → Looked) → Ends (length b) other → ((t : Bytes) → Ends (length b) (weakly t))
        → Ends (length b) (led_at b other weakly (definer_from b s i n))
    unfolding led_at led_by
    led-ends s other weakly o w = pick (definer_from b s i n) refl
      where
        reached : (j : ℕ) → j < set_count b → (m : Option Member) → member_at b j ≡ m → Ends (length b) (led_by other weakly (offset_at b j) m)
        reached j k none e = o
        reached j k (some (descriptor m dll compat)) e = o
        reached j k (some (null_descriptor m s)) e = o
        reached j k (some (null_thunk m s)) e = o
        reached j k (some (short m o k' t s dll x)) e = short-ends j k m o k' t s dll x e
        reached j k (some (weak m target alias)) e = w target

        pick : (q : Option ℕ) → definer_from b s i n ≡ q → Ends (length b) (led_at b other weakly q)
        pick none e = o
        pick (some j) e = reached j (omega (arith, definer-at b s i n j e)) (member_at b j) refl

    answer-ends : (s : Bytes) → Ends (length b) (answer_from b i n s)
    unfolding answer_from step_from
    answer-ends s = led-ends s NotFound (step_from b i n) tt (λ t. led-ends t Nowhere (λ another. Nowhere) tt (λ u. tt))

lookup-ends : (b : Bytes) (l : ℕ) (s : Bytes) → AnswerEnds (length b) (lookup b l s)
unfolding is_some
lookup-ends b l s = pick (is_some (read_set b)) refl
  where
    by : {r : Result Looked Refusal} → r ≡ lookup b l s → AnswerEnds (length b) r → AnswerEnds (length b) (lookup b l s)
    by e h = subst (AnswerEnds (length b)) e h

    listed : Valid b → Dec (l ≡ 1) → Dec (l ≡ 2) → AnswerEnds (length b) (lookup b l s)
    listed v (yes e) q = by (lookup-first b v s l e) (answer-ends b v.laid 3 (3 + set_firsts b - 3) (omega (arith, laid-count b v.laid)) s)
    listed v (no n) (yes e) =
        by (lookup-native b v s l e)
        (answer-ends b v.laid (3 + set_firsts b) (set_count b - (3 + set_firsts b)) (omega (arith, laid-count b v.laid)) s)
    listed v (no n) (no k) = by (lookup-other b v s l n k) tt

    pick : (t : Bool) → is_some (read_set b) ≡ t → AnswerEnds (length b) (lookup b l s)
    pick true e = listed (valid b e) (ℕ_discrete l 1) (ℕ_discrete l 2)
    pick false e = by (lookup-refused b l s e) tt

-- the customer's statement
pub looked-up : (b : Bytes) (l : ℕ) (s : Bytes) → LookedUp b l s (lookup b l s)
looked-up b l s =
    record {
      answers = refl;
      lies = λ n e. subst (AnswerEnds (length b)) e (lookup-ends b l s);
    }
