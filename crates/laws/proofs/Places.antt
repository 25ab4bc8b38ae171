-- Where the strings of the five members stand: each name that `fields` returns by its place is there.
use Rattle.std.specs.Prelude.{if◌then◌else◌}
use Prim.Native.Nat.{ℕ, ◌+◌}
use mathlib.Core.Path.{◌≡◌, refl, sym, ap, ◌∙◌}
use mathlib.Core.Bool.{Bool, true, false}
use mathlib.Core.Option.{Option, none, some}
use mathlib.Core.List.{List, [], ◌∷◌, ◌++◌, map, append-nil, append_assoc}
use native.Mathlib.Omega.{arith}
use lib.ListN.{length, drop}
use lib.Seq.{drop-drop}
use lib.Dec.{eqb}
use Rattle.wire.specs.Bytes.{Bytes, ascii, part, join}
use Rattle.wire.proofs.Bytes.{drop-past, part-seam}
use Rattle.format.specs.Machines.{wide}
use Rattle.format.specs.Names.{stem}
use Rattle.format.specs.Layouts.{Member, descriptor, null_descriptor, null_thunk, short, weak, import_header_size, data_at, dll_at, file_header, section, reloc, symbol, import_descriptor, long_name, auxiliary, strings, string_table, descriptor_name, null_name, thunk_name, compat_stem, descriptor_bytes, null_descriptor_bytes, null_thunk_bytes, import_header, short_bytes, short_strings, weak_bytes, slot_size, slot_alignment, encode}
use Rattle.format.specs.Reader.{string_after, descriptor_strings_at, null_strings_at, thunk_strings_at, weak_strings_at, span, absent, stem_span, fields, names_put, names_read}
use Rattle.format.specs.Demands.{shown_at}
use Rattle.format.specs.declared.Span.{Span}

-- ---- strings from a place on: the first, and those after it

pub part-strings : (b : Bytes) (at : ℕ) (s : Bytes) (ss : List Bytes) → drop at b ≡ strings (s ∷ ss) → part b at (length s) ≡ s
unfolding strings
part-strings b at s ss e = part-seam b at s (0 ∷ strings ss) e

pub drop-strings : (b : Bytes) (at : ℕ) (s : Bytes) (ss : List Bytes) → drop at b ≡ strings (s ∷ ss) → drop (at + (length s + 1)) b ≡ strings ss
unfolding strings
drop-strings b at s ss e = drop-past b at s (0 ∷ strings ss) 1 e

-- ---- the import descriptor

module _ (m : ℕ) (dll : Bytes) (compat : Bool) where
  abbrev descriptor-bytes : Bytes
  descriptor-bytes = encode (descriptor m dll compat)

  abbrev names : List Bytes
  names = descriptor_name (stem dll) ∷ null_name (compat_stem compat (stem dll)) ∷ thunk_name (stem dll) ∷ []

  pub drop-encode-descriptor-dll : drop dll_at (encode (descriptor m dll compat)) ≡ dll ++ 0 ∷ drop (dll_at + (length dll + 1)) (encode (descriptor m dll compat))
  unfolding encode descriptor_bytes join file_header section import_descriptor reloc
  drop-encode-descriptor-dll = ap (λ (r : Bytes). dll ++ 0 ∷ r) (sym (drop-past descriptor-bytes dll_at dll _ 1 refl))

  pub drop-encode-descriptor : drop (descriptor_strings_at dll) (encode (descriptor m dll compat))
      ≡ strings (descriptor_name (stem dll) ∷ null_name (compat_stem compat (stem dll)) ∷ thunk_name (stem dll) ∷ [])
  unfolding encode descriptor_bytes join file_header section import_descriptor reloc symbol long_name string_table
  drop-encode-descriptor =
      let place : descriptor_strings_at dll ≡ dll_at + (length dll + 131) = omega arith in
      rw place (drop-past descriptor-bytes dll_at dll _ 131 refl ∙ append-nil (strings names))

  pub part-encode-descriptor-dll : part (encode (descriptor m dll compat)) dll_at (length dll) ≡ dll
  part-encode-descriptor-dll = part-seam descriptor-bytes dll_at dll (0 ∷ drop (dll_at + (length dll + 1)) descriptor-bytes) drop-encode-descriptor-dll

  pub part-encode-descriptor-stem : part (encode (descriptor m dll compat)) (descriptor_strings_at dll + length (descriptor_name [])) (length (stem dll)) ≡ stem dll
  unfolding strings descriptor_name
  part-encode-descriptor-stem =
      part-seam descriptor-bytes (descriptor_strings_at dll + 20) (stem dll) _
      (sym (drop-drop 20 (descriptor_strings_at dll) descriptor-bytes) ∙ ap (drop 20) drop-encode-descriptor)

-- ---- the null import descriptor

module _ (m : ℕ) (s : Option Bytes) where
  pub drop-encode-null_descriptor : drop null_strings_at (encode (null_descriptor m s)) ≡ strings (null_name s ∷ [])
  unfolding encode null_descriptor_bytes join file_header section import_descriptor symbol long_name string_table
  drop-encode-null_descriptor = append-nil (strings (null_name s ∷ []))

pub part-encode-null_descriptor : (m : ℕ) (s : Bytes) → part (encode (null_descriptor m (some s))) (null_strings_at + length (null_name none) + 1) (length s) ≡ s
unfolding strings null_name
part-encode-null_descriptor m s =
    part-seam (encode (null_descriptor m (some s))) (null_strings_at + 25) s (0 ∷ [])
    (sym (drop-drop 25 null_strings_at (encode (null_descriptor m (some s)))) ∙ ap (drop 25) (drop-encode-null_descriptor m (some s)))

-- ---- the null thunk

module _ (m : ℕ) (s : Bytes) where
  abbrev thunk-bytes : Bytes
  thunk-bytes = encode (null_thunk m s)

  pub drop-encode-null_thunk : drop (thunk_strings_at m) (encode (null_thunk m s)) ≡ strings (thunk_name s ∷ [])
  unfolding encode null_thunk_bytes join file_header section symbol long_name string_table slot_size
  drop-encode-null_thunk = pick (wide m) (slot_alignment m)
    where
      pick : (w : Bool) (alignment : ℕ)
          → drop (string_after (data_at 2 + (if w then 8 else 4) + (if w then 8 else 4)) 1) (null_thunk_bytes m (if w then 8 else 4) alignment (thunk_name s))
          ≡ strings (thunk_name s ∷ [])
      pick true alignment = append-nil (strings (thunk_name s ∷ []))
      pick false alignment = append-nil (strings (thunk_name s ∷ []))

  pub part-encode-null_thunk : part (encode (null_thunk m s)) (thunk_strings_at m + 1) (length s) ≡ s
  unfolding strings thunk_name
  part-encode-null_thunk =
      part-seam thunk-bytes (thunk_strings_at m + 1) s (ascii "_NULL_THUNK_DATA" ++ 0 ∷ [])
      (sym (drop-drop 1 (thunk_strings_at m) thunk-bytes) ∙ ap (drop 1) drop-encode-null_thunk ∙ append_assoc s (ascii "_NULL_THUNK_DATA") (0 ∷ []))

-- ---- the short import

module _ (m o k t : ℕ) (s dll x : Bytes) where
  abbrev short-bytes : Bytes
  short-bytes = encode (short m o k t s dll x)

  abbrev exports : List Bytes
  exports = if eqb t 4 then x ∷ [] else []

  pub drop-encode-short : drop import_header_size (encode (short m o k t s dll x)) ≡ strings (s ∷ dll ∷ (if eqb t 4 then x ∷ [] else []))
  unfolding encode short_bytes import_header join short_strings
  drop-encode-short = pick (eqb t 4)
    where
      pick : (q : Bool) → strings (if q then s ∷ dll ∷ x ∷ [] else s ∷ dll ∷ []) ≡ strings (s ∷ dll ∷ (if q then x ∷ [] else []))
      pick true = refl
      pick false = refl

  pub drop-encode-short-dll : drop (import_header_size + (length s + 1)) (encode (short m o k t s dll x)) ≡ strings (dll ∷ (if eqb t 4 then x ∷ [] else []))
  drop-encode-short-dll = drop-strings short-bytes import_header_size s (dll ∷ exports) drop-encode-short

  pub drop-encode-short-exported : drop (import_header_size + (length s + 1) + (length dll + 1)) (encode (short m o k t s dll x)) ≡ strings (if eqb t 4 then x ∷ [] else [])
  drop-encode-short-exported = drop-strings short-bytes (import_header_size + (length s + 1)) dll exports drop-encode-short-dll

  pub part-encode-short-symbol : part (encode (short m o k t s dll x)) import_header_size (length s) ≡ s
  part-encode-short-symbol = part-strings short-bytes import_header_size s (dll ∷ exports) drop-encode-short

  pub part-encode-short-dll : part (encode (short m o k t s dll x)) (import_header_size + (length s + 1)) (length dll) ≡ dll
  part-encode-short-dll = part-strings short-bytes (import_header_size + (length s + 1)) dll exports drop-encode-short-dll

  pub part-encode-short-exported : eqb t 4 ≡ true → part (encode (short m o k t s dll x)) (import_header_size + (length s + 1) + (length dll + 1)) (length x) ≡ x
  part-encode-short-exported q = part-strings short-bytes (import_header_size + (length s + 1) + (length dll + 1)) x [] (rw q at drop-encode-short-exported)

-- ---- the weak external

module _ (m : ℕ) (target alias : Bytes) where
  abbrev weak-bytes : Bytes
  weak-bytes = encode (weak m target alias)

  pub drop-encode-weak : drop weak_strings_at (encode (weak m target alias)) ≡ strings (target ∷ alias ∷ [])
  unfolding encode weak_bytes join file_header section symbol long_name auxiliary string_table
  drop-encode-weak = append-nil (strings (target ∷ alias ∷ []))

  pub drop-encode-weak-alias : drop (weak_strings_at + (length target + 1)) (encode (weak m target alias)) ≡ strings (alias ∷ [])
  drop-encode-weak-alias = drop-strings weak-bytes weak_strings_at target (alias ∷ []) drop-encode-weak

  pub part-encode-weak-target : part (encode (weak m target alias)) weak_strings_at (length target) ≡ target
  part-encode-weak-target = part-strings weak-bytes weak_strings_at target (alias ∷ []) drop-encode-weak

  pub part-encode-weak-alias : part (encode (weak m target alias)) (weak_strings_at + (length target + 1)) (length alias) ≡ alias
  part-encode-weak-alias = part-strings weak-bytes (weak_strings_at + (length target + 1)) alias [] drop-encode-weak-alias

-- ---- what the reader returns: each name that was put in, at its place

three : (f : Span → Bytes) (p q r : Span) (x y z : Bytes) → f p ≡ x → f q ≡ y → f r ≡ z → map f (p ∷ q ∷ r ∷ []) ≡ x ∷ y ∷ z ∷ []
three f p q r x y z e g h = rw (e, g, h)

two : (f : Span → Bytes) (p q : Span) (x y : Bytes) → f p ≡ x → f q ≡ y → map f (p ∷ q ∷ []) ≡ x ∷ y ∷ []
two f p q x y e g = rw (e, g)

one : (f : Span → Bytes) (p : Span) (x : Bytes) → f p ≡ x → map f (p ∷ []) ≡ x ∷ []
one f p x e = rw e

nothing-shown : (b : Bytes) → shown_at b absent ≡ []
unfolding part
nothing-shown b = refl

pub fields-shown : (m : Member) → map (shown_at (encode m)) (names_read (fields m)) ≡ names_put m
unfolding fields stem_span names_read names_put
fields-shown (descriptor m dll compat) =
    two (shown_at (encode (descriptor m dll compat))) _ _ dll (stem dll) (part-encode-descriptor-dll m dll compat) (part-encode-descriptor-stem m dll compat)
fields-shown (null_descriptor m none) = one (shown_at (encode (null_descriptor m none))) absent [] (nothing-shown (encode (null_descriptor m none)))
fields-shown (null_descriptor m (some s)) = one (shown_at (encode (null_descriptor m (some s)))) _ s (part-encode-null_descriptor m s)
fields-shown (null_thunk m s) = one (shown_at (encode (null_thunk m s))) _ s (part-encode-null_thunk m s)
fields-shown (short m o k t s dll x) = pick (eqb t 4) refl
  where
    pick : (q : Bool) → eqb t 4 ≡ q
        → map (shown_at (encode (short m o k t s dll x)))
        (span import_header_size (length s) ∷ span (import_header_size + (length s + 1)) (length dll)
        ∷ (if q then span (import_header_size + (length s + 1) + (length dll + 1)) (length x) else absent) ∷ [])
        ≡ s ∷ dll ∷ (if q then x else []) ∷ []
    pick true q =
        three (shown_at (encode (short m o k t s dll x))) _ _ _ s dll x (part-encode-short-symbol m o k t s dll x) (part-encode-short-dll m o k t s dll x)
        (part-encode-short-exported m o k t s dll x q)
    pick false q =
        three (shown_at (encode (short m o k t s dll x))) _ _ absent s dll [] (part-encode-short-symbol m o k t s dll x) (part-encode-short-dll m o k t s dll x)
        (nothing-shown (encode (short m o k t s dll x)))
fields-shown (weak m target alias) =
    two (shown_at (encode (weak m target alias))) _ _ target alias (part-encode-weak-target m target alias) (part-encode-weak-alias m target alias)
