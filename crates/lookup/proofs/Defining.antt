-- The symbols that a member defines, compared one by one with a symbol.
use Rattle.std.specs.Prelude.{if◌then◌else◌, None, Some}
use Rattle.std.specs.Prelude as std
use Prim.Native.Nat.{ℕ, ◌+◌, ◌%◌, ◌≤◌}
use mathlib.Core.Path.{◌≡◌, refl, sym, ap, ◌∙◌}
use mathlib.Core.Bool.{Bool, true, false}
use mathlib.Core.Option.{Option, none, some, get_or}
use mathlib.Core.List.{[], ◌∷◌, ◌++◌, append-nil}
use native.Mathlib.Decide.{ℕ_discrete}
use lib.ListN.{length, take, drop}
use lib.Dec.{eqb}
use borrow.Author.Tests.{eq-eqb, ne_eqb}
use Rattle.wire.specs.Bytes.{Bytes, ascii, u16_at, u32_at, same, part}
use Rattle.wire.specs.Writes.{Found}
use Rattle.wire.proofs.Bytes.{same-refl, same-differ}
use Rattle.wire.proofs.Writes.{◌⨟◌, found-whole, whole-found}
use Rattle.format.specs.Machines.{arm64ec}
use Rattle.format.specs.Library.{imp}
use Rattle.format.specs.Layouts.{import_header_size}
use Rattle.format.specs.Reader.{text_at, weak_strings_at, short_guess, weak_guess, guess, right, read}
use Rattle.format.specs.Lookup.{shown, symbols, among}
use Rattle.format.specs.declared.Span.{Span}
use Rattle.names.specs.Mangler.{demangled_of, Demangles}
use Rattle.names.specs.declared.mangler.Demangled.{Demangled}
use Rattle.names.specs.declared.mangler.Demangled.TheVariants.{Dropped, Cut}
use Rattle.records.specs.Records.{import_header_at}
use Rattle.records.specs.declared.ImportObjectHeader.{ImportObjectHeader}
use Rattle.lookup.specs.Numbered.{short_symbols, symbols_of}
use Rattle.lookup.proofs.Saying.{Mute, SaidShort, SaidWeak}

-- ---- a symbol looked for from the start

pub found-test : {s b : Bytes} {r : ℕ} → Found s 0 b r → eqb r (length s) ≡ same s b
found-test {s} {b} {r} f = pick (ℕ_discrete r (length s))
  where
    pick : Dec (r ≡ length s) → eqb r (length s) ≡ same s b
    pick (yes e) = eq-eqb r (length s) e ∙ sym (ap (same s) (sym (found-whole f e)) ∙ same-refl s)
    pick (no n) = ne_eqb r (length s) n ∙ sym (same-differ s b (λ e. n (whole-found f e)))

pub pieces-test : {s p h t : Bytes} {a b r : ℕ} → Found s 0 p a → Found s a h b → Found s b t r → eqb r (length s) ≡ same s (p ++ (h ++ t))
pieces-test f g h = found-test (f ⨟ (g ⨟ h))

-- ---- among few

among-one : (s x : Bytes) → among s (x ∷ []) ≡ same s x
unfolding among
among-one s x = pick (same s x)
  where
    pick : (t : Bool) → (if t then true else false) ≡ t
    pick true = refl
    pick false = refl

-- ---- the symbols of a short import, where d is the one that it shows

module _ (x : Bytes) (m k : ℕ) (s d : Bytes) (q : d ≡ shown m s) where
  pub short-address : same x (imp d) ≡ true → true ≡ among x (short_symbols m k s)
  unfolding among symbols
  short-address e = rw (← q, e)

  module _ (a : same x (imp d) ≡ false) where
    pub short-data : k ≡ 1 → false ≡ among x (short_symbols m k s)
    unfolding among symbols
    short-data e = rw (← q, a, eq-eqb k 1 e)

    module _ (n : k ≡ 1 → ⊥) where
      pub short-shown : same x d ≡ true → true ≡ among x (short_symbols m k s)
      unfolding among symbols
      short-shown e = rw (← q, a, ne_eqb k 1 n, e)

      module _ (b : same x d ≡ false) where
        pub short-plain : (m ≡ arm64ec → ⊥) → false ≡ among x (short_symbols m k s)
        unfolding among symbols
        short-plain e = rw (← q, a, ne_eqb k 1 n, b, ne_eqb m arm64ec e)

        module _ (ec : m ≡ arm64ec) where
          pub short-auxiliary : same x (ascii "__imp_aux_" ++ d) ≡ true → true ≡ among x (short_symbols m k s)
          unfolding among symbols
          short-auxiliary e = rw (← q, a, ne_eqb k 1 n, b, eq-eqb m arm64ec ec, e)

          pub short-by : {t : Bool} → same x (ascii "__imp_aux_" ++ d) ≡ false → t ≡ same x s → t ≡ among x (short_symbols m k s)
          unfolding among symbols
          short-by c e = rw (← q, a, ne_eqb k 1 n, b, eq-eqb m arm64ec ec, c) (e ∙ sym (among-one x s))

-- ---- the symbol that a short import shows

pub shown-plain : (m : ℕ) (s : Bytes) → (m ≡ arm64ec → ⊥) → s ++ [] ≡ shown m s
unfolding shown
shown-plain m s n = rw (append-nil s, ne_eqb m arm64ec n)

module _ (m : ℕ) (s : Bytes) (ec : m ≡ arm64ec) {r : std.Option Demangled} (d : Demangles s r) where
  shown-as : {x : Bytes} {o : Option Bytes} → demangled_of s r ≡ o → x ≡ get_or o s → x ≡ shown m s
  unfolding shown
  shown-as {x} e f = rw (eq-eqb m arm64ec ec) (f ∙ ap (λ (o : Option Bytes). get_or o s) (sym e ∙ d.name))

  pub shown-dropped : r ≡ Some Dropped → drop 1 s ++ [] ≡ shown m s
  unfolding demangled_of
  shown-dropped e = shown-as (ap (demangled_of s) e) (append-nil _)

  pub shown-cut : (at : ℕ) → r ≡ Some (Cut at) → take at s ++ drop (at + 3) s ≡ shown m s
  unfolding demangled_of
  shown-cut at e = shown-as (ap (demangled_of s) e) refl

  pub shown-itself : r ≡ None → s ++ [] ≡ shown m s
  unfolding demangled_of
  shown-itself e = shown-as (ap (demangled_of s) e) (append-nil s)

module _ {s : Bytes} {r : std.Option Demangled} (d : Demangles s r) where
  pub dropped-some : r ≡ Some Dropped → 1 ≤ length s
  dropped-some e = rw e at d.within

  pub cut-some : (at : ℕ) → r ≡ Some (Cut at) → at + 4 ≤ length s
  cut-some at e = rw e at d.within

-- ---- the symbols of a member, by what the reader answers

pub mute-defines : (b s : Bytes) → Mute b → false ≡ among s (symbols_of (read b))
unfolding among
mute-defines b s h = ap (among s) h.defines

pub short-defines : {t : Bool} {b : Bytes} {m o n k : ℕ} {p x : Span} (s : Bytes) {name : Bytes} → SaidShort b m o n k p x → name ≡ part b p.start p.length
    → t ≡ among s (short_symbols m k name) → t ≡ among s (symbols_of (read b))
unfolding symbols_of symbols
short-defines {m = m} {k = k} s h e f = f ∙ ap (λ (d : Bytes). among s (short_symbols m k d)) e ∙ ap (λ o. among s (symbols_of o)) (sym h.is)

pub weak-defines : {t : Bool} {b : Bytes} {m : ℕ} {target alias : Span} (s : Bytes) {name : Bytes} → SaidWeak b m target alias → name ≡ part b alias.start alias.length
    → t ≡ same s name → t ≡ among s (symbols_of (read b))
unfolding symbols_of symbols
weak-defines s {name} h e f = f ∙ sym (among-one s name) ∙ ap (λ (d : Bytes). among s (d ∷ [])) e ∙ ap (λ o. among s (symbols_of o)) (sym h.is)

-- ---- a member that is not read

-- what it would be read as tells what it does not define
unread : (b s : Bytes) → among s (symbols (guess b)) ≡ false → among s (symbols_of (read b)) ≡ false
unfolding symbols_of among read
unread b s e = pick (right b (guess b))
  where
    pick : (q : Bool) → among s (symbols_of (if q then some (guess b) else none)) ≡ false
    pick true = e
    pick false = refl

pub may-short : {t : Bool} {h : ImportObjectHeader} {name : Bytes} (b s : Bytes) → u16_at b 0 ≡ 0 → h ≡ import_header_at b 0 → name ≡ text_at b import_header_size
    → t ≡ among s (short_symbols h.machine (h.name_type % 4) name) → t ≡ false → among s (symbols_of (read b)) ≡ false
unfolding symbols guess short_guess
may-short b s z e f g h =
    let q : guess b ≡ short_guess b = rw (eq-eqb _ _ z) in
    unread b s (ap (λ m. among s (symbols m)) q ∙ (rw (e, f) at (sym g)) ∙ h)

pub may-weak : {t : Bool} {target alias : Bytes} (b s : Bytes) → (u16_at b 0 ≡ 0 → ⊥) → u32_at b 12 ≡ 5 → target ≡ text_at b weak_strings_at
    → alias ≡ text_at b (weak_strings_at + (length target + 1)) → t ≡ same s alias → t ≡ false → among s (symbols_of (read b)) ≡ false
unfolding symbols guess weak_guess
may-weak b s z e f g h i =
    let q : guess b ≡ weak_guess b = rw (ne_eqb _ _ z, e) in
    let a : text_at b (weak_strings_at + (length (text_at b weak_strings_at) + 1)) ≡ _ = sym (rw f at g) in
    unread b s (ap (λ m. among s (symbols m)) q ∙ among-one s _ ∙ ap (same s) a ∙ sym h ∙ i)
