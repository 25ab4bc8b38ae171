-- What the lookup's answer means: where a symbol leads, told from the members alone.
use Rattle.std.specs.Prelude.{if◌then◌else◌}
use Prim.Native.Nat.{ℕ, suc, ◌+◌, ◌≤◌}
use mathlib.Core.Path.{◌≡◌, refl, sym, ap, ◌∙◌}
use mathlib.Core.Bool.{Bool, true, false, ◌||◌}
use mathlib.Core.Option
use mathlib.Core.Option.{Option, none, some, none-ne-some}
use mathlib.Core.List.{List, [], ◌∷◌, ◌++◌, map, Memᴰ}
use native.Mathlib.Omega.{arith}
use lib.ListN.{length, take, drop, length-drop}
use lib.Seq.{take_all}
use lib.Dec.{eqb}
use Rattle.wire.specs.Bytes.{Bytes, part, before, starts}
use Rattle.wire.proofs.Bytes.{part-past, part-part}
use Rattle.wire.proofs.Parts.{take-before, length-before}
use Rattle.format.specs.Names.{question, at_sign, underscore, prefixed, noprefix, undecorate, apply, dropped}
use Rattle.format.specs.Layouts.{Member, descriptor, null_descriptor, null_thunk, short, weak, import_header_size, encode}
use Rattle.format.specs.Lookup.{Placed, symbols, among, definer, entry, stepped, step, answered, answer, lookup_in}
use Rattle.format.specs.Demands.{Entry, by_ordinal, by_name, Where, not_found, nowhere, leads, meaning}
use Rattle.format.specs.declared.Looked.TheVariants as L
use Rattle.laws.proofs.Lengths.{length-encode-short}
use Rattle.laws.proofs.Places.{part-encode-short-symbol, part-encode-short-exported}
use Rattle.laws.proofs.Sets.{Stands}

-- ---- where a symbol leads, by the members of a list

-- a short import's DLL entry
unfoldable pub entry_of : ℕ → ℕ → Bytes → Bytes → Entry
entry_of o t s x = if eqb t 0 then by_ordinal o else by_name (if eqb t 4 then x else apply t s)

unfoldable pub definer_in : List Member → Bytes → Option Member
definer_in [] s = none
definer_in (m ∷ ms) s = let later = definer_in ms s in if among s (symbols m) then some m else later

unfoldable pub steps_to : Option Member → Where
steps_to none = nowhere
steps_to (some (descriptor m dll compat)) = nowhere
steps_to (some (null_descriptor m s)) = nowhere
steps_to (some (null_thunk m s)) = nowhere
steps_to (some (short m o k t s dll x)) = leads (entry_of o t s x)
steps_to (some (weak m target alias)) = nowhere

unfoldable pub leads_by : List Member → Option Member → Where
leads_by ms none = not_found
leads_by ms (some (descriptor m dll compat)) = not_found
leads_by ms (some (null_descriptor m s)) = not_found
leads_by ms (some (null_thunk m s)) = not_found
leads_by ms (some (short m o k t s dll x)) = leads (entry_of o t s x)
leads_by ms (some (weak m target alias)) = steps_to (definer_in ms target)

unfoldable pub leads_in : List Member → Bytes → Where
leads_in ms s = leads_by ms (definer_in ms s)

-- ---- a type applied to a name is a part of it

pub prefixed-short : (s : Bytes) → prefixed s ≤ length s
unfolding prefixed starts
prefixed-short [] = omega arith
prefixed-short (x ∷ xs) = one (eqb x question || eqb x at_sign || eqb x underscore)
  where
    one : (t : Bool) → (if t then 1 else 0) ≤ suc (length xs)
    one true = omega arith
    one false = omega arith

pub apply-part : (t : ℕ) (s : Bytes) → part s (dropped t s) (length (apply t s)) ≡ apply t s
unfolding part dropped apply noprefix undecorate
apply-part t s = pick (eqb t 2) (eqb t 3)
  where
    pick : (a b : Bool)
        → take (length (if a then drop (prefixed s) s else if b then before at_sign (drop (prefixed s) s) else s)) (drop (if a then prefixed s else if b then prefixed s else 0) s)
        ≡ (if a then drop (prefixed s) s else if b then before at_sign (drop (prefixed s) s) else s)
    pick true b = take_all (length (drop (prefixed s) s)) (drop (prefixed s) s) (omega arith)
    pick false true = take-before at_sign (drop (prefixed s) s)
    pick false false = take_all (length s) s (omega arith)

pub apply-within : (t : ℕ) (s : Bytes) → dropped t s + length (apply t s) ≤ length s
unfolding dropped apply noprefix undecorate
apply-within t s = pick (eqb t 2) (eqb t 3)
  where
    pick : (a b : Bool)
        → (if a then prefixed s else if b then prefixed s else 0) + length (if a then drop (prefixed s) s else if b then before at_sign (drop (prefixed s) s) else s) ≤ length s
    pick true b = omega (arith, length-drop (prefixed s) s, prefixed-short s)
    pick false true = omega (arith, length-drop (prefixed s) s, prefixed-short s, length-before at_sign (drop (prefixed s) s))
    pick false false = omega arith

-- ---- an entry's place shows the entry

module _ (set : Bytes) (at m o k t : ℕ) (s dll x rest : Bytes) (there : drop at set ≡ encode (short m o k t s dll x) ++ rest) where
  abbrev bytes : Bytes
  bytes = encode (short m o k t s dll x)

  long : 22 + length s + length dll ≤ length bytes
  long = omega (arith, length-encode-short m o k t s dll x)

  symbol-shown : part set (at + import_header_size + dropped t s) (length (apply t s)) ≡ apply t s
  symbol-shown =
      let within = apply-within t s in
      let place : at + import_header_size + dropped t s ≡ at + (import_header_size + dropped t s) = omega arith in
      let whole : part bytes import_header_size (length s) ≡ s = part-encode-short-symbol m o k t s dll x in
      rw place
      (part-past set at bytes rest (import_header_size + dropped t s) (length (apply t s)) there (omega (arith, long))
      ∙ part-part bytes import_header_size (length s) (dropped t s) (length (apply t s)) within
      ∙ ap (λ (l : Bytes). part l (dropped t s) (length (apply t s))) whole ∙ apply-part t s)

  exported-shown : eqb t 4 ≡ true → part set (at + import_header_size + (length s + 1) + (length dll + 1)) (length x) ≡ x
  exported-shown four =
      let place : at + import_header_size + (length s + 1) + (length dll + 1) ≡ at + (import_header_size + (length s + 1) + (length dll + 1)) = omega arith in
      let n : length bytes ≡ 22 + length s + length dll + (length x + 1)
      = length-encode-short m o k t s dll x ∙ ap (λ (q : Bool). 22 + length s + length dll + (if q then length x + 1 else 0)) four in
      rw place
      (part-past set at bytes rest (import_header_size + (length s + 1) + (length dll + 1)) (length x) there (omega arith)
      ∙ part-encode-short-exported m o k t s dll x four)

  pub entry-shown : meaning set (entry at o t s dll x) ≡ leads (entry_of o t s x)
  unfolding entry entry_of meaning
  entry-shown = pick (eqb t 0) (eqb t 4) refl
    where
      pick : (a b : Bool) → eqb t 4 ≡ b
          → meaning set
          (if a then L.Ordinal o
          else if b then L.Name (record { start = at + import_header_size + (length s + 1) + (length dll + 1); length = length x })
          else L.Name (record { start = at + import_header_size + dropped t s; length = length (apply t s) }))
          ≡ leads (if a then by_ordinal o else by_name (if b then x else apply t s))
      pick true b q = refl
      pick false true q = ap (λ (l : Bytes). leads (by_name l)) (exported-shown q)
      pick false false q = ap (λ (l : Bytes). leads (by_name l)) symbol-shown

-- ---- the lookup among placed members is the one among members

abbrev members : List Placed → List Member
members ps = map (λ (p : Placed). p.member) ps

pub definer-in : (ps : List Placed) (s : Bytes) → definer_in (map (λ (p : Placed). p.member) ps) s ≡ Option.map (λ (p : Placed). p.member) (definer ps s)
unfolding definer_in definer
definer-in [] s = refl
definer-in (p ∷ ps) s = one (among s (symbols p.member)) (definer-in ps s)
  where
    one : (t : Bool) → definer_in (members ps) s ≡ Option.map (λ (p : Placed). p.member) (definer ps s)
        → (if t then some p.member else definer_in (members ps) s) ≡ Option.map (λ (p : Placed). p.member) (if t then some p else definer ps s)
    one true ih = refl
    one false ih = ih

pub definer-listed : (ps : List Placed) (s : Bytes) (p : Placed) → definer ps s ≡ some p → Memᴰ p ps
unfolding definer
definer-listed [] s p e = absurd (none-ne-some p e)
definer-listed (q ∷ ps) s p e = one (among s (symbols q.member)) (definer-listed ps s p) e
  where
    one : (t : Bool) → (definer ps s ≡ some p → Memᴰ p ps) → (if t then some q else definer ps s) ≡ some p → Memᴰ p (q ∷ ps)
    one true ih e = let z : p ≡ q = cc in Memᴰ.head z
    one false ih e = Memᴰ.tail (ih e)

module _ (set : Bytes) (ps : List Placed) (stand : (p : Placed) → Memᴰ p ps → Stands set p) where
  stepped-means : (at : ℕ) (m : Member) (rest : Bytes) → drop at set ≡ encode m ++ rest → meaning set (stepped at m) ≡ steps_to (some m)
  unfolding stepped steps_to meaning
  stepped-means at (descriptor m dll compat) rest e = refl
  stepped-means at (null_descriptor m s) rest e = refl
  stepped-means at (null_thunk m s) rest e = refl
  stepped-means at (short m o k t s dll x) rest e = entry-shown set at m o k t s dll x rest e
  stepped-means at (weak m target alias) rest e = refl

  step-means : (s : Bytes) (q : Option Placed) → definer ps s ≡ q → meaning set (step q) ≡ steps_to (Option.map (λ (p : Placed). p.member) q)
  unfolding step steps_to meaning
  step-means s none e = refl
  step-means s (some p) e = let w = stand p (definer-listed ps s p e) in stepped-means p.at p.member w.rest w.there

  answered-means : (at : ℕ) (m : Member) (rest : Bytes) → drop at set ≡ encode m ++ rest → meaning set (answered ps at m) ≡ leads_by (members ps) (some m)
  unfolding answered leads_by meaning
  answered-means at (descriptor m dll compat) rest e = refl
  answered-means at (null_descriptor m s) rest e = refl
  answered-means at (null_thunk m s) rest e = refl
  answered-means at (short m o k t s dll x) rest e = entry-shown set at m o k t s dll x rest e
  answered-means at (weak m target alias) rest e = step-means target (definer ps target) refl ∙ ap steps_to (sym (definer-in ps target))

  answer-means : (s : Bytes) (q : Option Placed) → definer ps s ≡ q → meaning set (answer ps q) ≡ leads_by (members ps) (Option.map (λ (p : Placed). p.member) q)
  unfolding answer leads_by meaning
  answer-means s none e = refl
  answer-means s (some p) e = let w = stand p (definer-listed ps s p e) in answered-means p.at p.member w.rest w.there

  pub lookup_in-means : (s : Bytes) → meaning set (lookup_in ps s) ≡ leads_in (map (λ (p : Placed). p.member) ps) s
  unfolding lookup_in leads_in
  lookup_in-means s = answer-means s (definer ps s) refl ∙ ap (leads_by (members ps)) (sym (definer-in ps s))
