-- What the lookup's answers are as a number and fields.
use Rattle.std.specs.Prelude.{Result, Ok, Err}
use Prim.Native.Nat.{ℕ, ◌≤◌, ◌<◌}
use mathlib.Core.Path.{◌≡◌, refl, subst}
use mathlib.Core.List.{List, [], ◌∷◌, ◌++◌}
use native.Mathlib.Omega.{arith}
use lib.ListN.{length, drop}
use borrow.Author.Tests.{lt-ltb, le-ltb, le-leb, lt-leb}
use Rattle.wire.specs.Bytes.{Bytes}
use Rattle.format.specs.Answers.{where_number, looked_values, ends}
use Rattle.format.specs.Lookup.{lookup}
use Rattle.format.specs.declared.Span.{Span}
use Rattle.format.specs.declared.Looked.{Looked}
use Rattle.format.specs.declared.Looked.TheVariants.{NotFound, Nowhere, Ordinal, Name}
use Rattle.format.specs.declared.Reason.TheVariants.{NoRoom, NotASet}
use Rattle.format.specs.declared.Refusal.{Refusal}
use Rattle.crepedum.specs.Words.{reason_word}
use Rattle.lookup.proofs.Numbering.{looked-up}
use Rattle.crepedum.specs.Looking.{looked_count, looked, looked_word, looked_filled, looked_answer, looked_after, ShortLooked}

-- ---- the values of each answer

module _ (r : Looked) (l : List ℕ) where
  pub filled-not-found : r ≡ NotFound → (0 ≡ where_number r) × (l ≡ looked_values r ++ drop (length (looked_values r)) l)
  unfolding where_number looked_values
  filled-not-found e = rw e (refl, refl)

  pub filled-nowhere : r ≡ Nowhere → (1 ≡ where_number r) × (l ≡ looked_values r ++ drop (length (looked_values r)) l)
  unfolding where_number looked_values
  filled-nowhere e = rw e (refl, refl)

  pub filled-ordinal : {l' : List ℕ} {o : ℕ} → r ≡ Ordinal o → l' ≡ (o ∷ []) ++ drop 1 l → (2 ≡ where_number r) × (l' ≡ looked_values r ++ drop (length (looked_values r)) l)
  unfolding where_number looked_values
  filled-ordinal e f = rw e (refl, f)

  pub filled-name : {l' : List ℕ} {s : Span} → r ≡ Name s → l' ≡ ends s ++ drop looked_count l → (3 ≡ where_number r) × (l' ≡ looked_values r ++ drop (length (looked_values r)) l)
  unfolding where_number looked_values
  filled-name e f = rw e (refl, f)

-- ---- too few fields; a set that is too long, and one that is not

pub few-fields : (r : Result Looked Refusal) (l : List ℕ) → length l < looked_count → (reason_word NoRoom ≡ looked_answer r l) × (l ≡ looked_after r l)
unfolding looked_answer looked_after
few-fields r l h = rw (lt-ltb (length l) looked_count h) (refl, refl)

module _ (set : Bytes) (list : ℕ) (s : Bytes) (l : List ℕ) (h : looked_count ≤ length l) where
  pub too-long : 4294967296 ≤ length set → (reason_word NotASet ≡ looked_answer (looked set list s) l) × (l ≡ looked_after (looked set list s) l)
  unfolding looked looked_answer looked_after looked_word looked_filled
  too-long k = rw (le-ltb (length l) looked_count h, le-leb 4294967296 (length set) k) (refl, refl)

  module _ (k : length set < 4294967296) where
    pub looked-by : {w : ℕ} {q : Looked} {l' : List ℕ} → lookup set list s ≡ Ok q → (w ≡ where_number q) × (l' ≡ looked_values q ++ drop (length (looked_values q)) l)
        → (w ≡ looked_answer (looked set list s) l) × (l' ≡ looked_after (looked set list s) l)
    unfolding looked looked_answer looked_after looked_word looked_filled
    looked-by e (f, g) = rw (le-ltb (length l) looked_count h, lt-leb 4294967296 (length set) k, e) (f, g)

    pub looked-refused : {w : ℕ} {q : Refusal} → lookup set list s ≡ Err q → w ≡ reason_word q.reason
        → (w ≡ looked_answer (looked set list s) l) × (l ≡ looked_after (looked set list s) l)
    unfolding looked looked_answer looked_after looked_word looked_filled
    looked-refused e f = rw (le-ltb (length l) looked_count h, lt-leb 4294967296 (length set) k, e) (f, refl)

-- ---- a name's start and length are fields of 32 bits

pub shorts-looked : {q : Looked} (set : Bytes) (list : ℕ) (s : Bytes) → lookup set list s ≡ Ok q → length set < 4294967296 → ShortLooked q
shorts-looked {q} set list s e k = pick q e
  where
    pick : (q : Looked) → lookup set list s ≡ Ok q → ShortLooked q
    pick NotFound e = tt
    pick Nowhere e = tt
    pick (Ordinal o) e = tt
    pick (Name n) e =
        let h = (looked-up set list s).lies n e in
        record { start = omega arith; length = omega arith }

pub short-name : (q r : Looked) → q ≡ r → ShortLooked q → ShortLooked r
short-name q r e h = subst ShortLooked e h
