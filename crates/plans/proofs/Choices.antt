-- Laws of choices and plans: each answer by the facts that lead to it.
use Rattle.std.specs.Prelude.{if◌then◌else◌, None, Some}
use Prim.Native.Nat.{ℕ}
use mathlib.Core.Path.{◌≡◌, refl, sym, ap, ap₂, ◌∙◌}
use mathlib.Core.Bool.{Bool, true, false, ◌||◌, not}
use mathlib.Core.Option.{none, some, get_or}
use mathlib.Core.List.{[], ◌∷◌}
use native.Mathlib.Omega.{arith}
use lib.ListN.{length}
use borrow.Author.Tests.{eq-eqb, ne_eqb}
use Rattle.wire.specs.Bytes.{Bytes, same, starts}
use Rattle.format.specs.Machines.{i386, arm64ec}
use Rattle.format.specs.Exports.{Export, field_at, absent_at, bytes_at, string_at, export_at, noname}
use Rattle.format.specs.Names.{hash, question, apply, plain_type, tagged, demangle}
use Rattle.format.specs.Plan as P
use Rattle.format.specs.Plan.{base, kind, free, choose_import, choose_named, choose, exporting, mangled, plan_choice, plan_public}
use Rattle.format.specs.declared.Reason.TheVariants.{NoPublicName, NotMangled, NotDemangled}
use Rattle.coff.specs.Import.{kind_number}
use Rattle.coff.specs.declared.import.ImportType.{ImportType}
use Rattle.coff.specs.declared.import.ImportType.TheVariants.{Code, Data, Const}
use Rattle.names.specs.Mangler.{mangling_of, demangled_of}
use Rattle.names.specs.declared.mangler.Demangled.{Demangled}
use Rattle.names.specs.declared.mangler.Demangled.TheVariants as D
use Rattle.names.specs.declared.mangler.Mangling.TheVariants as M
use Rattle.lists.proofs.Records.{base-name, base-symbol}
use Rattle.plans.specs.Shape.{other_import}

-- ---- import_name

module _ (machine : ℕ) (p w : Bytes) where
  pub other-ec : machine ≡ arm64ec → P.typed 4 w ≡ other_import machine p w
  unfolding other_import
  other-ec m = rw (eq-eqb _ _ m)

  pub other-same : (machine ≡ arm64ec → ⊥) → same p w ≡ true → P.typed 1 [] ≡ other_import machine p w
  unfolding other_import
  other-same m s = rw (ne_eqb _ _ m, s)

  pub other-later : (machine ≡ arm64ec → ⊥) → same p w ≡ false → P.later w ≡ other_import machine p w
  unfolding other_import
  other-later m s = rw (ne_eqb _ _ m, s)

  pub import-other : (machine ≡ i386 → ⊥) → other_import machine p w ≡ choose_import machine p w
  unfolding other_import choose_import
  import-other m = rw (ne_eqb _ _ m)

  pub import-3 : machine ≡ i386 → same (apply 3 p) w ≡ true → P.typed 3 [] ≡ choose_import machine p w
  unfolding choose_import
  import-3 m s = rw (eq-eqb _ _ m, s)

  pub import-2 : machine ≡ i386 → same (apply 3 p) w ≡ false → same (apply 2 p) w ≡ true → P.typed 2 [] ≡ choose_import machine p w
  unfolding choose_import
  import-2 m s t = rw (eq-eqb _ _ m, s, t)

  pub import-neither : machine ≡ i386 → same (apply 3 p) w ≡ false → same (apply 2 p) w ≡ false → other_import machine p w ≡ choose_import machine p w
  unfolding other_import choose_import
  import-neither m s t = rw (eq-eqb _ _ m, s, t)

-- ---- a record's strings

pub string-some : (b : Bytes) (at : ℕ) → absent_at b at ≡ false → string_at b at ≡ some (bytes_at b at)
unfolding string_at
string-some b at e = rw e

pub string-none : (b : Bytes) (at : ℕ) → absent_at b at ≡ true → string_at b at ≡ none
unfolding string_at
string-none b at e = rw e

-- ---- the choice

module _ (machine : ℕ) (mingw : Bool) (b : Bytes) (k : ℕ) (p : Bytes) where
  abbrev e : Export
  e = export_at b k

  pub choose-noname : noname (export_at b k) ≡ true → P.typed 0 [] ≡ choose machine mingw (export_at b k) p
  unfolding choose
  choose-noname n = rw n

  module _ (n : noname (export_at b k) ≡ false) where
    pub choose-as : absent_at b (field_at k 4) ≡ false → P.typed 4 (get_or (export_at b k).export_as []) ≡ choose machine mingw (export_at b k) p
    unfolding choose choose_named export_at
    choose-as a = rw (n, string-some b (field_at k 4) a)

    pub choose-imported : (w : Bytes) → absent_at b (field_at k 4) ≡ true → (export_at b k).import_name ≡ some w → choose_import machine p w ≡ choose machine mingw (export_at b k) p
    unfolding choose choose_named export_at
    choose-imported w a i = rw (n, string-none b (field_at k 4) a, i)

    pub choose-plain : absent_at b (field_at k 4) ≡ true → absent_at b (field_at k 3) ≡ true
        → P.typed (plain_type machine mingw (base (export_at b k)) (export_at b k).name) [] ≡ choose machine mingw (export_at b k) p
    unfolding choose choose_named export_at
    choose-plain a i = rw (n, string-none b (field_at k 4) a, string-none b (field_at k 3) i)

pub import-there : (b : Bytes) (k : ℕ) (w : Bytes) → absent_at b (field_at k 3) ≡ false → w ≡ bytes_at b (field_at k 3) → (export_at b k).import_name ≡ some w
unfolding export_at
import-there b k w a e = string-some b (field_at k 3) a ∙ ap some (sym e)

-- ---- mangling

-- what mangling comes to, told apart by `mangling_of`
pub mangled-prefix : (f : Bool) (p x : Bytes) (t : ℕ) → mangling_of p ≡ Some M.Prefix → mangled f p t x ≡ (if f then P.plain (hash ∷ p) 4 p else P.plain (hash ∷ p) t x)
unfolding mangling_of mangled
mangled-prefix f p x t e = pick (not (starts question p || starts hash p)) (starts hash p || tagged p) e
  where
    pick : (a b : Bool) → (if a then Some M.Prefix else if b then Some M.Mangled else None) ≡ Some M.Prefix
        → (if a then (if f then P.plain (hash ∷ p) 4 p else P.plain (hash ∷ p) t x)
        else if b then (if f then exporting p (demangle p) else P.plain p t x) else (if f then P.refused NotMangled else P.plain p t x))
        ≡ (if f then P.plain (hash ∷ p) 4 p else P.plain (hash ∷ p) t x)
    pick true b e = refl
    pick false true e = cc
    pick false false e = cc

pub mangled-already : (f : Bool) (p x : Bytes) (t : ℕ) → mangling_of p ≡ Some M.Mangled → mangled f p t x ≡ (if f then exporting p (demangle p) else P.plain p t x)
unfolding mangling_of mangled
mangled-already f p x t e = pick (not (starts question p || starts hash p)) (starts hash p || tagged p) e
  where
    pick : (a b : Bool) → (if a then Some M.Prefix else if b then Some M.Mangled else None) ≡ Some M.Mangled
        → (if a then (if f then P.plain (hash ∷ p) 4 p else P.plain (hash ∷ p) t x)
        else if b then (if f then exporting p (demangle p) else P.plain p t x) else (if f then P.refused NotMangled else P.plain p t x))
        ≡ (if f then exporting p (demangle p) else P.plain p t x)
    pick true b e = cc
    pick false true e = refl
    pick false false e = cc

pub mangled-cannot : (f : Bool) (p x : Bytes) (t : ℕ) → mangling_of p ≡ None → mangled f p t x ≡ (if f then P.refused NotMangled else P.plain p t x)
unfolding mangling_of mangled
mangled-cannot f p x t e = pick (not (starts question p || starts hash p)) (starts hash p || tagged p) e
  where
    pick : (a b : Bool) → (if a then Some M.Prefix else if b then Some M.Mangled else None) ≡ None
        → (if a then (if f then P.plain (hash ∷ p) 4 p else P.plain (hash ∷ p) t x)
        else if b then (if f then exporting p (demangle p) else P.plain p t x) else (if f then P.refused NotMangled else P.plain p t x))
        ≡ (if f then P.refused NotMangled else P.plain p t x)
    pick true b e = cc
    pick false true e = cc
    pick false false e = refl

pub exporting-none : (p : Bytes) → demangle p ≡ none → exporting p (demangle p) ≡ P.refused NotDemangled
unfolding exporting
exporting-none p e = rw e

pub exporting-some : (p x : Bytes) → demangle p ≡ some x → exporting p (demangle p) ≡ P.plain p 4 (get_or (demangle p) [])
unfolding exporting
exporting-some p x e = rw e

pub exporting-shown : (p : Bytes) (d : Demangled) → demangle p ≡ demangled_of p (Some d) → exporting p (demangle p) ≡ P.plain p 4 (get_or (demangle p) [])
unfolding demangled_of
exporting-shown p D.Dropped e = exporting-some p _ e
exporting-shown p (D.Cut at) e = exporting-some p _ e

-- ---- the plan

pub plan-ec : (machine : ℕ) (e : Export) (p x : Bytes) (t : ℕ) → machine ≡ arm64ec → kind e ≡ 0 → mangled (free t) p t x ≡ plan_choice machine e p (P.typed t x)
unfolding plan_choice
plan-ec machine e p x t m k = rw (eq-eqb _ _ m, eq-eqb _ _ k)

pub plan-data : (machine : ℕ) (e : Export) (p x : Bytes) (t : ℕ) → machine ≡ arm64ec → (kind e ≡ 0 → ⊥) → P.plain p t x ≡ plan_choice machine e p (P.typed t x)
unfolding plan_choice
plan-data machine e p x t m k = rw (eq-eqb _ _ m, ne_eqb _ _ k)

-- the kind 0 is that of code alone
pub code-is : (t : ImportType) → kind_number t ≡ 0 → t ≡ Code
code-is Code e = refl
code-is Data e = absurd (omega (arith, e))
code-is Const e = absurd (omega (arith, e))

pub plan-off : (machine : ℕ) (e : Export) (p x : Bytes) (t : ℕ) → (machine ≡ arm64ec → ⊥) → P.plain p t x ≡ plan_choice machine e p (P.typed t x)
unfolding plan_choice
plan-off machine e p x t m = rw (ne_eqb _ _ m)

pub public-empty : (machine : ℕ) (mingw : Bool) (e : Export) (p : Bytes) → length p ≡ 0 → P.refused NoPublicName ≡ plan_public machine mingw e (some p)
unfolding plan_public
public-empty machine mingw e [] h = refl
public-empty machine mingw e (x ∷ xs) h = absurd (omega arith)

pub public-some : (machine : ℕ) (mingw : Bool) (e : Export) (p : Bytes) → (length p ≡ 0 → ⊥) → plan_choice machine e p (choose machine mingw e p) ≡ plan_public machine mingw e (some p)
unfolding plan_public
public-some machine mingw e [] h = absurd (h refl)
public-some machine mingw e (x ∷ xs) h = refl

-- ---- answers of calls, by what their arguments are

pub gives-is : (s t w : Bytes) (r : Bool) → r ≡ same s w → s ≡ t → r ≡ same t w
gives-is s t w r e q = rw (← q) e

-- the type of an export that names no other: its base is its name, or its symbol_name
module _ (machine : ℕ) (mingw : Bool) (b : Bytes) (k : ℕ) {t : ℕ} {n : Bytes} where
  pub plain-own : t ≡ plain_type machine mingw n n → n ≡ (export_at b k).name → absent_at b (field_at k 2) ≡ true
      → t ≡ plain_type machine mingw (base (export_at b k)) (export_at b k).name
  plain-own p f a = p ∙ ap₂ (λ (x y : Bytes). plain_type machine mingw x y) (f ∙ base-name b k a) f

  pub plain-both : {s : Bytes} → t ≡ plain_type machine mingw s n → s ≡ bytes_at b (field_at k 2) → n ≡ (export_at b k).name → absent_at b (field_at k 2) ≡ false
      → t ≡ plain_type machine mingw (base (export_at b k)) (export_at b k).name
  plain-both p f g a = p ∙ ap₂ (λ (x y : Bytes). plain_type machine mingw x y) (f ∙ base-symbol b k a) g

pub mangled-by : {f g : Bool} (p x : Bytes) (t : ℕ) → g ≡ f → mangled f p t x ≡ mangled g p t x
mangled-by p x t e = rw e
