-- What the reader's answer says of the member that the bytes are read as, with each name by its place.
use Rattle.std.specs.Prelude.{if◌then◌else◌, Result, Ok, Err, None, Some}
use Prim.Native.Nat.{ℕ, ◌+◌, ◌≤◌}
use mathlib.Core.Path.{◌≡◌, refl, sym, ap, ap₂, ◌∙◌, subst}
use mathlib.Core.Bool.{Bool, true, false}
use mathlib.Core.Option.{Option, none, some}
use mathlib.Core.List.{[]}
use mathlib.Core.Logic.{◌⊎◌, inl, inr}
use Rattle.std.specs.Result.{result_ok}
use native.Mathlib.Omega.{arith}
use lib.ListN.{length}
use lib.Dec.{eqb}
use borrow.Author.Tests.{eq-eqb, ne_eqb, eqb-true, eqb-false}
use Rattle.wire.specs.Bytes.{Bytes, part}
use Rattle.format.specs.Names.{apply, dropped}
use Rattle.format.specs.Layouts.{Member, descriptor, null_descriptor, null_thunk, short, weak, import_header_size, encode}
use Rattle.format.specs.Reader.{weak_strings_at, read, span, absent, fields, fields_or_refused, read_fields}
use Rattle.format.specs.Lookup.{symbols, rank, entry}
use Rattle.format.specs.Refusals.{refusal}
use Rattle.format.specs.declared.Reason.TheVariants.{NotASet}
use Rattle.format.specs.declared.Refusal.{Refusal}
use Rattle.format.specs.declared.Span.{Span}
use Rattle.format.specs.declared.Read.{Read}
use Rattle.format.specs.declared.Read.TheVariants as R
use Rattle.format.specs.declared.Looked.TheVariants.{Ordinal, Name}
use Rattle.format.specs.declared.Looked.{Looked}
use Rattle.laws.proofs.Lengths.{length-encode-short, length-encode-weak}
use Rattle.laws.proofs.Places.{part-encode-short-symbol, part-encode-weak-target, part-encode-weak-alias}
use Rattle.laws.proofs.ReadBack.{read-sound}
use Rattle.lookup.specs.Numbered.{bytes_of, member_at, rank_of, rank_read, ranked_as, symbols_of, entry_by, led_by, Inside}
use Rattle.lookup.proofs.Refusing.{set-kept, set-refused}

-- ---- the rank

rank-fields : (m : Member) → rank_read (fields m) ≡ rank m
unfolding fields rank
rank-fields (descriptor m dll compat) = refl
rank-fields (null_descriptor m s) = refl
rank-fields (null_thunk m s) = refl
rank-fields (short m o k t s dll x) = refl
rank-fields (weak m target alias) = refl

-- by what is read, and its rank
module _ (x : Result Read Refusal) (r : ℕ) where
  pub ranked-none : {q : Refusal} → x ≡ Err q → Err (refusal NotASet 0) ≡ ranked_as r x
  unfolding ranked_as
  ranked-none e = rw e

  pub ranked-other : {f : Read} → x ≡ Ok f → (rank_read f ≡ r → ⊥) → Err (refusal NotASet 0) ≡ ranked_as r x
  unfolding ranked_as
  ranked-other {f} e n = rw (e, ne_eqb (rank_read f) r n)

  pub ranked-some : {f : Read} → x ≡ Ok f → rank_read f ≡ r → Ok f ≡ ranked_as r x
  unfolding ranked_as
  ranked-some {f} e g = rw (e, eq-eqb (rank_read f) r g)

-- a member that has to have a rank, by its bytes: it has it, or the bytes are no set
module _ (b : Bytes) (r : ℕ) where
  pub ranked-kept : {f : Read} → ranked_as r (read_fields b) ≡ Ok f → (Ok f ≡ read_fields b) × (rank_of (read b) ≡ r)
  unfolding read_fields fields_or_refused ranked_as rank_of
  ranked-kept {f} e = pick (read b) e
    where
      pick : (o : Option Member) → ranked_as r (fields_or_refused o) ≡ Ok f → (Ok f ≡ fields_or_refused o) × (rank_of o ≡ r)
      pick none e = let z : ◌≡◌ {A = ℕ} 0 1 = cc in absurd (omega arith)
      pick (some m) e =
          let k = set-kept (eqb (rank_read (fields m)) r) (fields m) e in
          (ap Ok (sym k.1), sym (rank-fields m) ∙ eqb-true _ _ k.0)

  pub ranked-refused : {q : Refusal} → r ≤ 3 → ranked_as r (read_fields b) ≡ Err q → (rank_of (read b) ≡ r → ⊥) × (q ≡ refusal NotASet 0)
  unfolding read_fields fields_or_refused ranked_as rank_of
  ranked-refused {q} h e = pick (read b) e
    where
      pick : (o : Option Member) → ranked_as r (fields_or_refused o) ≡ Err q → (rank_of o ≡ r → ⊥) × (q ≡ refusal NotASet 0)
      pick none e = (λ z. omega arith, cc)
      pick (some m) e =
          let k = set-refused (eqb (rank_read (fields m)) r) (fields m) e in
          (λ z. eqb-false _ _ k.0 (rank-fields m ∙ z), k.1)

pub rank-at : {m : Bytes} (b : Bytes) (i : ℕ) → m ≡ bytes_of b i → rank_of (read m) ≡ rank_of (member_at b i)
unfolding member_at
rank-at b i e = ap (λ (m : Bytes). rank_of (read m)) e

-- ---- the member, by the answer

-- what defines no symbol and leads to nothing: a fixed member, or none
pub record Mute (b : Bytes) : Type 0 where
  pub defines : [] ≡ symbols_of (read b)
  pub leads : (other : Looked) (weakly : Bytes → Looked) (at : ℕ) → other ≡ led_by other weakly at (read b)

pub record SaidShort (b : Bytes) (m o t k : ℕ) (s x : Span) : Type 0 where
  pub dll : Bytes
  pub exported : Bytes
  pub is : read b ≡ some (short m o k t (part b s.start s.length) dll exported)
  pub symbol : Inside s (length b)
  pub export : Inside x (length b)
  pub answers : (at : ℕ) → entry_by at o t s.start (part b s.start s.length) x ≡ entry at o t (part b s.start s.length) dll exported

pub record SaidWeak (b : Bytes) (m : ℕ) (target alias : Span) : Type 0 where
  pub is : read b ≡ some (weak m (part b target.start target.length) (part b alias.start alias.length))
  pub to : Inside target (length b)
  pub from : Inside alias (length b)

abbrev pub Said : Bytes → Read → Type 0
Said b (R.Descriptor m c dll s) = Mute b
Said b (R.NullDescriptor m c s) = Mute b
Said b (R.NullThunk m s) = Mute b
Said b (R.ShortImport m o t k s dll x) = SaidShort b m o t k s x
Said b (R.WeakExternal m target alias) = SaidWeak b m target alias

entry-by : (at o t : ℕ) (s dll x : Bytes)
    → entry_by at o t import_header_size s (if eqb t 4 then span (import_header_size + (length s + 1) + (length dll + 1)) (length x) else absent) ≡ entry at o t s dll x
unfolding entry_by entry
entry-by at o t s dll x = pick (eqb t 0) (eqb t 4)
  where
    pick : (p q : Bool)
        → (if p then Ordinal o else if q then Name (span (at + (if q then span (20 + (length s + 1) + (length dll + 1)) (length x) else absent).start) (if q then span (20 + (length s + 1) + (length dll + 1)) (length x) else absent).length) else Name (span (at + (20 + dropped t s)) (length (apply t s))))
        ≡ (if p then Ordinal o else if q then Name (span (at + 20 + (length s + 1) + (length dll + 1)) (length x)) else Name (span (at + 20 + dropped t s) (length (apply t s))))
    pick true q = refl
    pick false true = ap (λ (k : ℕ). Name (span k (length x))) (omega arith)
    pick false false = ap (λ (k : ℕ). Name (span k (length (apply t s)))) (omega arith)

module _ (b : Bytes) (m o k t : ℕ) (s dll x : Bytes) (e : read b ≡ some (short m o k t s dll x)) where
  short-is : encode (short m o k t s dll x) ≡ b
  short-is = (read-sound b _ e).is

  short-part : part b import_header_size (length s) ≡ s
  short-part = ap (λ (d : Bytes). part d import_header_size (length s)) (sym short-is) ∙ part-encode-short-symbol m o k t s dll x

  short-length : length b ≡ 22 + length s + length dll + (if eqb t 4 then length x + 1 else 0)
  short-length = ap length (sym short-is) ∙ length-encode-short m o k t s dll x

  said-short : SaidShort b m o t k (span import_header_size (length s)) (if eqb t 4 then span (import_header_size + (length s + 1) + (length dll + 1)) (length x) else absent)
  said-short =
      record {
        dll = dll;
        exported = x;
        is = e ∙ ap (λ (s : Bytes). some (short m o k t s dll x)) (sym short-part);
        symbol = record { inside = omega (arith, short-length) };
        export = record { inside = pick (eqb t 4) short-length };
        answers = λ at.
            ap (λ (p : Bytes). entry_by at o t 20 p (if eqb t 4 then span (import_header_size + (length s + 1) + (length dll + 1)) (length x) else absent)) short-part
            ∙ entry-by at o t s dll x ∙ ap (λ (p : Bytes). entry at o t p dll x) (sym short-part);
      }
    where
      pick : (q : Bool) → length b ≡ 22 + length s + length dll + (if q then length x + 1 else 0)
          → (if q then span (import_header_size + (length s + 1) + (length dll + 1)) (length x) else absent).start
          + (if q then span (import_header_size + (length s + 1) + (length dll + 1)) (length x) else absent).length ≤ length b
      pick true h = omega arith
      pick false h = omega arith

module _ (b : Bytes) (m : ℕ) (target alias : Bytes) (e : read b ≡ some (weak m target alias)) where
  weak-is : encode (weak m target alias) ≡ b
  weak-is = (read-sound b _ e).is

  weak-length : length b ≡ 156 + length target + length alias
  weak-length = ap length (sym weak-is) ∙ length-encode-weak m target alias

  weak-target : part b weak_strings_at (length target) ≡ target
  weak-target = ap (λ (d : Bytes). part d weak_strings_at (length target)) (sym weak-is) ∙ part-encode-weak-target m target alias

  weak-alias : part b (weak_strings_at + (length target + 1)) (length alias) ≡ alias
  weak-alias = ap (λ (d : Bytes). part d (weak_strings_at + (length target + 1)) (length alias)) (sym weak-is) ∙ part-encode-weak-alias m target alias

  said-weak : SaidWeak b m (span weak_strings_at (length target)) (span (weak_strings_at + (length target + 1)) (length alias))
  said-weak =
      record {
        is = e ∙ ap₂ (λ (t a : Bytes). some (weak m t a)) (sym weak-target) (sym weak-alias);
        to = record { inside = omega (arith, weak-length) };
        from = record { inside = omega (arith, weak-length) };
      }

mute : (b : Bytes) (o : Option Member) → read b ≡ o → [] ≡ symbols_of o → ((other : Looked) (weakly : Bytes → Looked) (at : ℕ) → other ≡ led_by other weakly at o) → Mute b
mute b o e d l =
    record {
      defines = d ∙ ap symbols_of (sym e);
      leads = λ other weakly at. l other weakly at ∙ ap (led_by other weakly at) (sym e);
    }

module _ (b : Bytes) where
  -- of what the reader answers
  said : {f : Read} → Ok f ≡ read_fields b → Said b f
  unfolding read_fields fields_or_refused fields symbols_of symbols led_by
  said {f} h = pick (read b) refl h
    where
      by : (q : Read) → Said b q → ◌≡◌ {A = Result Read Refusal} (Ok f) (Ok q) → Said b f
      by q s e =
          let z : f ≡ q = cc in
          subst (Said b) (sym z) s

      pick : (o : Option Member) → read b ≡ o → Ok f ≡ fields_or_refused o → Said b f
      pick none e h = let z : ◌≡◌ {A = ℕ} 0 1 = cc in absurd (omega arith)
      pick (some (descriptor m dll compat)) e h = by _ (mute b (some (descriptor m dll compat)) e refl (λ other weakly at. refl)) h
      pick (some (null_descriptor m s)) e h = by _ (mute b (some (null_descriptor m s)) e refl (λ other weakly at. refl)) h
      pick (some (null_thunk m s)) e h = by _ (mute b (some (null_thunk m s)) e refl (λ other weakly at. refl)) h
      pick (some (short m o k t s dll x)) e h = by _ (said-short b m o k t s dll x e) h
      pick (some (weak m target alias)) e h = by _ (said-weak b m target alias e) h

  -- of one that is one of them
  pub said-as : {f : Read} (q : Read) → Ok f ≡ read_fields b → f ≡ q → Said b q
  said-as q e g = subst (Said b) g (said e)

  -- of a refusal
  pub said-refused : {r : Refusal} → Err r ≡ read_fields b → Mute b
  unfolding read_fields fields_or_refused symbols_of led_by
  said-refused {r} h = pick (read b) refl h
    where
      pick : (o : Option Member) → read b ≡ o → Err r ≡ fields_or_refused o → Mute b
      pick none e h = mute b none e refl (λ other weakly at. refl)
      pick (some m) e h = let z : ◌≡◌ {A = ℕ} 0 1 = cc in absurd (omega arith)

  -- of one that is a fixed member's
  pub said-fixed : {f : Read} → Ok f ≡ read_fields b
      → ((m : ℕ) × (c : Bool) × (d : Span) × (s : Span) × (f ≡ R.Descriptor m c d s))
      ⊎ (((m : ℕ) × (c : Bool) × (s : Span) × (f ≡ R.NullDescriptor m c s)) ⊎ ((m : ℕ) × (s : Span) × (f ≡ R.NullThunk m s)))
      → Mute b
  said-fixed e (inl (m, c, d, s, q)) = said-as (R.Descriptor m c d s) e q
  said-fixed e (inr (inl (m, c, s, q))) = said-as (R.NullDescriptor m c s) e q
  said-fixed e (inr (inr (m, s, q))) = said-as (R.NullThunk m s) e q

-- what the reader answers, as an option
pub read-some : {f : Read} (r : Result Read Refusal) → result_ok r ≡ Some f → Ok f ≡ r
read-some (Ok g) e = cc
read-some (Err q) e = cc

pub read-none : (b : Bytes) → result_ok (read_fields b) ≡ None → Mute b
read-none b e = pick (read_fields b) refl e
  where
    pick : (r : Result Read Refusal) → read_fields b ≡ r → result_ok r ≡ None → Mute b
    pick (Ok f) h e = let z : ◌≡◌ {A = ℕ} 0 1 = cc in absurd (omega arith)
    pick (Err q) h e = said-refused b (sym h)
