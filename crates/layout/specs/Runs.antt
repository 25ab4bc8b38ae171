-- What the functions write: parts of a layout one after the other, strings and string tables.
use Rattle.std.specs.Prelude.{ℕ, ◌+◌, Bool, List, [], ◌∷◌, ◌++◌, length, take, pos}
use Rattle.wire.specs.Bytes.{Bytes, ascii, zeros, join}
use Rattle.wire.specs.Writes.{Wrote}
use Rattle.format.specs.Layouts.{import_descriptor_size, IMAGE-SCN-ALIGN-2BYTES, IMAGE-SCN-ALIGN-4BYTES, IMAGE-SYM-UNDEFINED, IMAGE-SYM-ABSOLUTE, IMAGE-SYM-CLASS-NULL, IMAGE-SYM-CLASS-EXTERNAL, IMAGE-SYM-CLASS-STATIC, IMAGE-SYM-CLASS-SECTION, IMAGE-SYM-CLASS-WEAK-EXTERNAL, IMAGE-WEAK-EXTERN-SEARCH-ALIAS, section, reloc, symbol, import_descriptor, original_first_thunk_field, name_field, first_thunk_field, long_name, auxiliary, strings, strings_at, string_table, descriptor_name, null_name, thunk_name, compat_stem, data_at, idata, relocations_at, dll_at}

-- ---- what was written over l from a place on, which left l', and r is the next place

-- parts, one after the other
pub record Parts (l : Bytes) (at : ℕ) (parts : List Bytes) (l' : Bytes) (r : ℕ) : Type 0 where
  pub wrote : Wrote l at (join parts) l' r

-- strings with NUL
pub record Strings (l : Bytes) (at : ℕ) (ss : List Bytes) (l' : Bytes) (r : ℕ) : Type 0 where
  pub wrote : Wrote l at (strings ss) l' r

-- a string table
pub record Table (l : Bytes) (at : ℕ) (ss : List Bytes) (l' : Bytes) (r : ℕ) : Type 0 where
  pub wrote : Wrote l at (string_table ss) l' r

-- ---- string tables

-- where a string begins in the table of all: after n others, and the size
abbrev pub begins_at : List Bytes → ℕ → ℕ
begins_at ss n = strings_at + length (strings (take n ss))

-- the strings of an import descriptor, by its stem
abbrev pub descriptor_strings : Bool → Bytes → List Bytes
descriptor_strings compat s = descriptor_name s ∷ null_name (compat_stem compat s) ∷ thunk_name s ∷ []

-- the strings of a weak external, which begin alike
abbrev pub weak_strings : Bytes → Bytes → Bytes → List Bytes
weak_strings prefix target alias = (prefix ++ target) ∷ (prefix ++ alias) ∷ []

-- ---- the import descriptor

-- its sections, of which the second holds the DLL name with its NUL
abbrev pub descriptor_sections : ℕ → List Bytes
descriptor_sections dll_size =
    section (ascii ".idata$2") import_descriptor_size (data_at 2) relocations_at 3 (idata IMAGE-SCN-ALIGN-4BYTES)
    ∷ section (ascii ".idata$6") dll_size dll_at 0 0 (idata IMAGE-SCN-ALIGN-2BYTES)
    ∷ []

-- its relocations, of a machine's type
abbrev pub relocations : ℕ → List Bytes
relocations type =
    reloc name_field 2 type
    ∷ reloc original_first_thunk_field 3 type
    ∷ reloc first_thunk_field 4 type
    ∷ []

-- the data of both sections, the relocations after the first
abbrev pub descriptor_data : ℕ → Bytes → List Bytes
descriptor_data type dll = import_descriptor ∷ (relocations type ++ (dll ∷ zeros 1 ∷ []))

-- its symbols, by where its own name, the null name and the thunk's name begin in the string table
abbrev pub descriptor_symbols : ℕ → ℕ → ℕ → List Bytes
descriptor_symbols name_at null_at thunk_at =
    symbol (long_name name_at) (pos 1) IMAGE-SYM-CLASS-EXTERNAL 0
    ∷ symbol (ascii ".idata$2") (pos 1) IMAGE-SYM-CLASS-SECTION 0
    ∷ symbol (ascii ".idata$6") (pos 2) IMAGE-SYM-CLASS-STATIC 0
    ∷ symbol (ascii ".idata$4") IMAGE-SYM-UNDEFINED IMAGE-SYM-CLASS-SECTION 0
    ∷ symbol (ascii ".idata$5") IMAGE-SYM-UNDEFINED IMAGE-SYM-CLASS-SECTION 0
    ∷ symbol (long_name null_at) IMAGE-SYM-UNDEFINED IMAGE-SYM-CLASS-EXTERNAL 0
    ∷ symbol (long_name thunk_at) IMAGE-SYM-UNDEFINED IMAGE-SYM-CLASS-EXTERNAL 0
    ∷ []

-- ---- the weak external

-- its symbols, by where the target and the alias begin in the string table
abbrev pub weak_symbols : ℕ → ℕ → List Bytes
weak_symbols target_at alias_at =
    symbol (ascii "@comp.id") IMAGE-SYM-ABSOLUTE IMAGE-SYM-CLASS-STATIC 0
    ∷ symbol (ascii "@feat.00") IMAGE-SYM-ABSOLUTE IMAGE-SYM-CLASS-STATIC 0
    ∷ symbol (long_name target_at) IMAGE-SYM-UNDEFINED IMAGE-SYM-CLASS-EXTERNAL 0
    ∷ symbol (long_name alias_at) IMAGE-SYM-UNDEFINED IMAGE-SYM-CLASS-WEAK-EXTERNAL 1
    ∷ symbol (auxiliary 2 IMAGE-WEAK-EXTERN-SEARCH-ALIAS) IMAGE-SYM-UNDEFINED IMAGE-SYM-CLASS-NULL 0
    ∷ []
