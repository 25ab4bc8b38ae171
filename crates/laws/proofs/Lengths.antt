-- How long the records, the string tables, the names and the five members are.
use Rattle.std.specs.Prelude.{if◌then◌else◌}
use Prim.Native.Nat.{ℕ, ◌+◌, ◌*◌}
use mathlib.Core.Path.{◌≡◌, refl}
use mathlib.Core.Bool.{Bool, true, false}
use mathlib.Core.Option.{none, some}
use mathlib.Core.List.{List, [], ◌∷◌}
use native.Mathlib.Omega.{arith}
use lib.ListN.{length, length-append, length-replicate}
use lib.IntN.{ℤ}
use lib.Dec.{eqb}
use Rattle.wire.specs.Bytes.{Bytes, join}
use Rattle.format.specs.Names.{stem}
use Rattle.format.specs.Layouts.{descriptor, null_descriptor, null_thunk, short, weak, file_header_size, section_size, relocation_size, symbol_size, import_descriptor_size, import_header_size, strings_at, file_header, section, reloc, symbol, import_descriptor, long_name, auxiliary, strings, string_table, descriptor_name, null_name, thunk_name, compat_stem, descriptor_bytes, null_descriptor_bytes, null_thunk_bytes, import_header, short_bytes, short_strings, weak_bytes, slot_size, encode}

-- ---- records

pub length-file_header : (m n p k c : ℕ) → length (file_header m n p k c) ≡ file_header_size
unfolding file_header join
length-file_header m n p k c = refl

pub length-section : (name : Bytes) (z a p k c : ℕ) → length name ≡ 8 → length (section name z a p k c) ≡ section_size
unfolding section join
length-section name z a p k c e = simp length-append (omega arith)

pub length-reloc : (a n k : ℕ) → length (reloc a n k) ≡ relocation_size
unfolding reloc join
length-reloc a n k = refl

pub length-symbol : (name : Bytes) (s : ℤ) (c a : ℕ) → length name ≡ 8 → length (symbol name s c a) ≡ symbol_size
unfolding symbol join
length-symbol name s c a e = simp length-append (omega arith)

pub length-import_descriptor : length import_descriptor ≡ import_descriptor_size
unfolding import_descriptor join
length-import_descriptor = refl

pub length-long_name : (offset : ℕ) → length (long_name offset) ≡ 8
unfolding long_name
length-long_name offset = refl

pub length-auxiliary : (n k : ℕ) → length (auxiliary n k) ≡ 8
unfolding auxiliary
length-auxiliary n k = refl

pub length-short_bytes : (m o k t : ℕ) (names : Bytes) → length (short_bytes m o k t names) ≡ import_header_size + length names
unfolding short_bytes import_header join
length-short_bytes m o k t names = simp length-append (omega arith)

-- ---- string tables

pub length-strings-nil : length (strings []) ≡ 0
unfolding strings
length-strings-nil = refl

pub length-strings-cons : (s : Bytes) (ss : List Bytes) → length (strings (s ∷ ss)) ≡ length s + 1 + length (strings ss)
unfolding strings
length-strings-cons s ss = simp length-append (omega arith)

pub length-string_table : (ss : List Bytes) → length (string_table ss) ≡ strings_at + length (strings ss)
unfolding string_table
length-string_table ss = simp length-append (omega arith)

ruleset Tables = (length-strings-nil, length-strings-cons, length-string_table)

-- ---- names

pub length-descriptor_name : (s : Bytes) → length (descriptor_name s) ≡ 20 + length s
unfolding descriptor_name
length-descriptor_name s = simp length-append (omega arith)

pub length-null_name-none : length (null_name none) ≡ 24
unfolding null_name
length-null_name-none = refl

pub length-null_name-some : (s : Bytes) → length (null_name (some s)) ≡ 25 + length s
unfolding null_name
length-null_name-some s = simp length-append (omega arith)

pub length-thunk_name : (s : Bytes) → length (thunk_name s) ≡ 17 + length s
unfolding thunk_name
length-thunk_name s = simp length-append (omega arith)

-- ---- layouts

ruleset Records = (length-append, length-replicate, length-file_header, length-section, length-reloc, length-symbol, length-import_descriptor, length-long_name, length-auxiliary, Tables)

pub length-descriptor_bytes : (m : ℕ) (dll d n t : Bytes) → length (descriptor_bytes m dll d n t) ≡ 284 + length dll + length d + length n + length t
unfolding descriptor_bytes join
length-descriptor_bytes m dll d n t = simp Records (omega arith)

pub length-null_descriptor_bytes : (m : ℕ) (name : Bytes) → length (null_descriptor_bytes m name) ≡ 103 + length name
unfolding null_descriptor_bytes join
length-null_descriptor_bytes m name = simp Records (omega arith)

pub length-null_thunk_bytes : (m slot alignment : ℕ) (name : Bytes) → length (null_thunk_bytes m slot alignment name) ≡ 123 + 2 * slot + length name
unfolding null_thunk_bytes join
length-null_thunk_bytes m slot alignment name = simp Records (omega arith)

pub length-weak_bytes : (m : ℕ) (target alias : Bytes) → length (weak_bytes m target alias) ≡ 156 + length target + length alias
unfolding weak_bytes join
length-weak_bytes m target alias = simp Records (omega arith)

pub length-short_strings : (t : ℕ) (s dll x : Bytes) → length (strings (short_strings t s dll x)) ≡ 2 + length s + length dll + (if eqb t 4 then length x + 1 else 0)
unfolding short_strings
length-short_strings t s dll x = pick (eqb t 4)
  where
    pick : (q : Bool) → length (strings (if q then s ∷ dll ∷ x ∷ [] else s ∷ dll ∷ [])) ≡ 2 + length s + length dll + (if q then length x + 1 else 0)
    pick true = simp Tables (omega arith)
    pick false = simp Tables (omega arith)

-- ---- members

-- under compat the null name ends in `_` and the stem
pub length-encode-descriptor : (m : ℕ) (dll : Bytes) (compat : Bool)
    → length (encode (descriptor m dll compat)) ≡ 345 + length dll + 2 * length (stem dll) + (if compat then length (stem dll) + 1 else 0)
unfolding encode compat_stem
length-encode-descriptor m dll true =
    simp (length-descriptor_bytes, length-descriptor_name, length-null_name-some, length-thunk_name) (omega arith)
length-encode-descriptor m dll false =
    simp (length-descriptor_bytes, length-descriptor_name, length-null_name-none, length-thunk_name) (omega arith)

pub length-encode-null_descriptor-none : (m : ℕ) → length (encode (null_descriptor m none)) ≡ 127
unfolding encode
length-encode-null_descriptor-none m = simp (length-null_descriptor_bytes, length-null_name-none)

pub length-encode-null_descriptor-some : (m : ℕ) (s : Bytes) → length (encode (null_descriptor m (some s))) ≡ 128 + length s
unfolding encode
length-encode-null_descriptor-some m s = simp (length-null_descriptor_bytes, length-null_name-some) (omega arith)

pub length-encode-null_thunk : (m : ℕ) (s : Bytes) → length (encode (null_thunk m s)) ≡ 140 + 2 * slot_size m + length s
unfolding encode
length-encode-null_thunk m s = simp (length-null_thunk_bytes, length-thunk_name) (omega arith)

pub length-encode-short : (m o k t : ℕ) (s dll x : Bytes)
    → length (encode (short m o k t s dll x)) ≡ 22 + length s + length dll + (if eqb t 4 then length x + 1 else 0)
unfolding encode
length-encode-short m o k t s dll x = simp (length-short_bytes, length-short_strings) (omega arith)

pub length-encode-weak : (m : ℕ) (target alias : Bytes) → length (encode (weak m target alias)) ≡ 156 + length target + length alias
unfolding encode
length-encode-weak m target alias = length-weak_bytes m target alias
