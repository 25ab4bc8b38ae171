-- 01, "Build examples": P1 to P11, and what they leave untold, as one table about the definitions, proved by computation.
use Rattle.std.specs.Prelude.{ℕ, zero, suc, ◌+◌, ◌*◌, ◌≡◌, refl, true, false, List, [], ◌∷◌, ◌++◌, map, length, drop, replicate, Ok, Err}
use Prim.Native.String.{String}
use Rattle.std.proofs.Common.{ap}
use Rattle.std.proofs.Math.Option.{none, some}
use Rattle.wire.specs.Bytes as Bytes
use Rattle.wire.specs.Bytes.{Bytes, ascii, le16, le32, part, u32_at}
use Rattle.format.specs.Machines as Machines
use Rattle.format.specs.Machines.{i386, armnt, amd64, arm64, arm64ec, arm64x}
use Rattle.format.specs.Exports as Exports
use Rattle.format.specs.Names as Names
use Rattle.format.specs.Names.{stem, replace, apply}
use Rattle.format.specs.Plan as Plan
use Rattle.format.specs.Layouts as Layouts
use Rattle.format.specs.Layouts.{Member, descriptor, null_descriptor, null_thunk, short, weak, encode}
use Rattle.format.specs.Library as Library
use Rattle.format.specs.Library.{Options, imp, first_members, native_members, member_set}
use Rattle.format.specs.Refusals as Refusals
use Rattle.format.specs.Refusals.{refusal, check_exports}
use Rattle.format.specs.Reader as Reader
use Rattle.format.specs.Reader.{read_fields, span}
use Rattle.format.specs.Lookup as Lookup
use Rattle.format.specs.Lookup.{symbols, lookup}
use Rattle.format.specs.Demands as Demands
use Rattle.format.specs.Demands.{Where, leads, nowhere, not_found, by_ordinal, by_name, told}
use Rattle.format.specs.Private.{no_more, private_right, same_next, Alike}
use Rattle.format.specs.Numbers as Numbers
use Rattle.format.specs.declared.Reason.TheVariants.{UnknownMachine, TooShort, TooMany, WrongLayout, OutsideNames, EmptyString, TooLong, HasNul, UnknownFlag, BarredDll, NotRenamed, NoPublicName, NotMangled, NotDemangled, NoRoom, NotAMember, NotASet, FewSlots}
use Rattle.format.specs.declared.Read.TheVariants.{ShortImport}
use Rattle.format.specs.declared.Read.TheVariants as R
use Rattle.format.specs.declared.Looked.TheVariants as L
use Rattle.format.specs.Answers as Answers
use Rattle.format.specs.Answers.{Written, asked, written, output_after, Writes}
use Rattle.format.specs.Library.{set_bytes}

-- ---- a list made for an example: its DLL name is att.dll

record Given : Type 0 where
  texts : List Bytes
  ordinal : ℕ
  flags : ℕ

-- the five strings in field order, [] for an absent one
abbrev given : List Bytes → ℕ → ℕ → Given
given ss o f = record { texts = ss; ordinal = o; flags = f }

abbrev field : ℕ → Bytes → Bytes
field at [] = le32 0 ++ le32 0
field at (x ∷ xs) = le32 at ++ le32 (length (x ∷ xs))

abbrev fields : ℕ → List Bytes → Bytes
fields at [] = []
fields at (s ∷ ss) = field at s ++ fields (at + length s) ss

abbrev chars : List Bytes → Bytes
chars [] = []
chars (s ∷ ss) = s ++ chars ss

abbrev records : ℕ → List Given → Bytes
records at [] = []
records at (g ∷ gs) = fields at g.texts ++ le16 g.ordinal ++ le16 g.flags ++ records (at + length (chars g.texts)) gs

abbrev names : List Given → Bytes
names [] = []
names (g ∷ gs) = chars g.texts ++ names gs

abbrev dll : Bytes
dll = ascii "att.dll"

-- the first list and the native list
abbrev lists : List Given → List Given → Bytes
lists fs ns =
    le32 (length fs) ++ le32 (length ns) ++ le32 28 ++ le32 (28 + 44 * (length fs + length ns))
    ++ le32 (length dll + length (names (fs ++ ns))) ++ le32 0 ++ le32 (length dll)
    ++ records (length dll) (fs ++ ns) ++ dll ++ names (fs ++ ns)

abbrev list : List Given → Bytes
list gs = lists gs []

abbrev on : ℕ → Options
on m = record { machine = m; mingw = false; compat = false }

abbrev compat_on : ℕ → Options
compat_on m = record { machine = m; mingw = false; compat = true }

-- a record that has a name alone; one of a base, a name and an ext_name; one that wants an import_name; one with an export_as
abbrev named : String → ℕ → ℕ → Given
named s o f = given (ascii s ∷ [] ∷ [] ∷ [] ∷ [] ∷ []) o f

abbrev renamed : String → String → String → Given
renamed base name ext = given (ascii name ∷ ascii ext ∷ ascii base ∷ [] ∷ [] ∷ []) 0 0

abbrev wants : String → String → ℕ → Given
wants s w f = given (ascii s ∷ [] ∷ [] ∷ ascii w ∷ [] ∷ []) 0 f

abbrev exported_as : String → String → Given
exported_as s x = given (ascii s ∷ [] ∷ [] ∷ [] ∷ ascii x ∷ []) 0 0

-- the flags
abbrev is_noname : ℕ
is_noname = 1

abbrev is_datum : ℕ
is_datum = 2

-- P10's name with noname, with export_as and with import_name
abbrev hashes : List Given
hashes = named "#" 3 is_noname ∷ exported_as "#" "x" ∷ wants "#" "y" 0 ∷ []

-- P11's three records
abbrev by_number : Given
by_number = named "att_step" 3 is_noname

abbrev decorated : Given
decorated = named "_att_step" 0 0

abbrev wanting : Given
wanting = wants "att_go" "att_step" 0

-- the first n numbers of a member set, its header and directory
abbrev numbers : ℕ → Bytes → List ℕ
numbers zero b = []
numbers (suc n) b = u32_at b 0 ∷ numbers n (drop 4 b)

abbrev plain_short : ℕ → ℕ → String → Member
plain_short machine t s = short machine 0 0 t (ascii s) dll []

abbrev exporting : ℕ → String → String → Member
exporting machine s x = short machine 0 0 4 (ascii s) dll (ascii x)

-- the two weak externals of a code alias
abbrev aliases : ℕ → String → String → List Member
aliases machine t a = weak machine (ascii t) (ascii a) ∷ weak machine (imp (ascii t)) (imp (ascii a)) ∷ []

-- where a symbol of the first list leads
abbrev led : ℕ → List Given → Bytes → Where
led machine gs s = told (member_set (on machine) (list gs)) (lookup (member_set (on machine) (list gs)) 1 s)

-- what a list's first members are
abbrev firsts : ℕ → List Given → List Member
firsts machine gs = first_members (on machine) (list gs)

pub table :
    -- P1
    (numbers 10 (member_set (on amd64) (list [])) ≡ 3 ∷ 0 ∷ 0 ∷ 40 ∷ 40 ∷ 358 ∷ 398 ∷ 127 ∷ 525 ∷ 159 ∷ [])
    × (length (member_set (on amd64) (list [])) ≡ 684)
    × (written (on amd64) (list []) 8192 684 ≡ Ok 684)
    × (written (on amd64) (list []) 8192 683 ≡ Err (refusal NoRoom 0))
    × (written (on amd64) (list []) 8193 684 ≡ Ok 684)
    × (written (on amd64) (list []) 8191 683 ≡ Err (refusal FewSlots 0))
    -- P2, with the null thunk's symbol table at 108
    × (numbers 10 (member_set (on i386) (list [])) ≡ 3 ∷ 0 ∷ 0 ∷ 40 ∷ 40 ∷ 358 ∷ 398 ∷ 127 ∷ 525 ∷ 151 ∷ [])
    × (length (member_set (on i386) (list [])) ≡ 676)
    × (u32_at (encode (null_thunk i386 (ascii "att"))) 8 ≡ 108)
    × (u32_at (encode (null_thunk amd64 (ascii "att"))) 8 ≡ 116)
    -- P3
    × (numbers 10 (member_set (compat_on amd64) (list [])) ≡ 3 ∷ 0 ∷ 0 ∷ 40 ∷ 40 ∷ 362 ∷ 402 ∷ 131 ∷ 533 ∷ 159 ∷ [])
    × (length (member_set (compat_on amd64) (list [])) ≡ 692)
    -- P4
    × (map encode (firsts amd64 (named "att_step" 5 0 ∷ []))
    ≡ (0 ∷ 0 ∷ 0xFF ∷ 0xFF ∷ 0 ∷ 0 ∷ 0x64 ∷ 0x86 ∷ 0 ∷ 0 ∷ 0 ∷ 0 ∷ 0x11 ∷ 0 ∷ 0 ∷ 0 ∷ 5 ∷ 0 ∷ 4 ∷ 0 ∷ ascii "att_step\0att.dll\0") ∷ [])
    -- P5
    × (length (encode (weak amd64 (ascii "_att_step") (ascii "att_go"))) ≡ 171)
    × (part (encode (weak amd64 (ascii "_att_step") (ascii "att_go"))) 114 8 ≡ le32 0 ++ le32 14)
    × (length (encode (weak amd64 (imp (ascii "_att_step")) (imp (ascii "att_go")))) ≡ 183)
    × (part (encode (weak amd64 (imp (ascii "_att_step")) (imp (ascii "att_go")))) 114 8 ≡ le32 0 ++ le32 20)
    -- P6
    × (replace (ascii "f@8") (ascii "_f") (ascii "_g") ≡ some (ascii "g@8"))
    × (replace (ascii "ff") (ascii "f") (ascii "g") ≡ some (ascii "gf"))
    -- P7
    × (check_exports (on amd64) (list (renamed "a" "_a" "_" ∷ [])) ≡ Err (refusal NoPublicName 0))
    -- P8
    × (apply 2 (ascii "@_f") ≡ ascii "_f")
    × (apply 3 (ascii "?f@1@") ≡ ascii "f")
    -- P9
    × (firsts arm64ec (named "f" 0 0 ∷ []) ≡ exporting arm64ec "#f" "f" ∷ [])
    × (check_exports (on arm64ec) (list (named "?f" 0 0 ∷ [])) ≡ Err (refusal NotMangled 0))
    × (check_exports (on arm64ec) (list (named "?f$$h" 0 0 ∷ [])) ≡ Err (refusal NotDemangled 0))
    -- P10 as amended; with noname or an export string it is written, under the symbols of the name itself
    × (check_exports (on arm64ec) (list (named "#" 0 0 ∷ [])) ≡ Err (refusal NotDemangled 0))
    × (check_exports (on arm64ec) (list hashes) ≡ Ok tt)
    × (firsts arm64ec hashes ≡ short arm64ec 3 0 0 (ascii "#") dll [] ∷ exporting arm64ec "#" "x" ∷ exporting arm64ec "#" "y" ∷ [])
    × (symbols (exporting arm64ec "#" "x") ≡ ascii "__imp_#" ∷ ascii "#" ∷ ascii "__imp_aux_#" ∷ ascii "#" ∷ [])
    × (led arm64ec hashes (ascii "__imp_aux_#") ≡ leads (by_ordinal 3))
    × (led arm64ec hashes (ascii "__imp_") ≡ not_found)
    -- P11
    × (firsts i386 (by_number ∷ decorated ∷ wanting ∷ [])
    ≡ short i386 3 0 0 (ascii "att_step") dll [] ∷ plain_short i386 2 "_att_step" ∷ aliases i386 "_att_step" "att_go")
    × (firsts i386 (decorated ∷ by_number ∷ wanting ∷ [])
    ≡ plain_short i386 2 "_att_step" ∷ short i386 3 0 0 (ascii "att_step") dll [] ∷ aliases i386 "att_step" "att_go")
    × (led i386 (decorated ∷ by_number ∷ wanting ∷ []) (ascii "att_go") ≡ leads (by_ordinal 3))
    × (led i386 (by_number ∷ decorated ∷ wanting ∷ []) (imp (ascii "att_go")) ≡ leads (by_name (ascii "att_step")))
    -- a deferred export that stands first is written last
    × (firsts amd64 (wants "b" "a" 0 ∷ named "a" 0 0 ∷ []) ≡ plain_short amd64 1 "a" ∷ aliases amd64 "a" "b")
    -- a renamed export's type goes by its base and name, not by its public name
    × (firsts i386 (given (ascii "f" ∷ ascii "_g" ∷ [] ∷ [] ∷ [] ∷ []) 0 0 ∷ []) ≡ plain_short i386 1 "_g" ∷ [])
    -- an import's key is its type applied to its name, not its entry
    × (firsts amd64 (exported_as "a" "x" ∷ wants "b" "a" 0 ∷ wants "c" "x" 0 ∷ [])
    ≡ exporting amd64 "a" "x" ∷ aliases amd64 "a" "b" ++ exporting amd64 "c" "x" ∷ [])
    -- a deferred export adds no key
    × (firsts amd64 (wants "a" "z" 0 ∷ wants "b" "a" 0 ∷ []) ≡ exporting amd64 "a" "z" ∷ exporting amd64 "b" "a" ∷ [])
    -- a code alias of a data import has an unprefixed symbol that leads nowhere; a data alias has none
    × (led amd64 (named "a" 0 is_datum ∷ wants "b" "a" 0 ∷ []) (ascii "b") ≡ nowhere)
    × (led amd64 (named "a" 0 is_datum ∷ wants "b" "a" 0 ∷ []) (ascii "__imp_b") ≡ leads (by_name (ascii "a")))
    × (led amd64 (named "a" 0 0 ∷ wants "b" "a" is_datum ∷ []) (ascii "b") ≡ not_found)
    -- ARM64X: the first list is ARM64EC's, the native list ARM64's
    × (first_members (on arm64x) (lists (named "f" 0 0 ∷ []) (named "f" 0 0 ∷ [])) ≡ exporting arm64ec "#f" "f" ∷ [])
    × (native_members (on arm64x) (lists (named "f" 0 0 ∷ []) (named "f" 0 0 ∷ [])) ≡ plain_short arm64 1 "f" ∷ [])
    -- a place counts both lists and private records
    × (check_exports (on arm64ec) (lists (named "?" 0 4 ∷ named "f" 0 0 ∷ []) (named "f" 0 0 ∷ named "g" 0 16 ∷ [])) ≡ Err (refusal UnknownFlag 3))
    -- stems
    × (stem (ascii ".a") ≡ ascii ".a")
    × (stem (ascii "a.b.c") ≡ ascii "a.b")
    -- the reader's places
    × (read_fields (encode (exporting amd64 "f" "x")) ≡ Ok (ShortImport amd64 0 4 0 (span 20 1) (span 22 7) (span 30 1)))
    -- the reader: every layout's places
    × (read_fields (encode (descriptor amd64 dll false)) ≡ Ok (R.Descriptor amd64 false (span 150 7) (span 308 3)))
    × (read_fields (encode (descriptor i386 dll true)) ≡ Ok (R.Descriptor i386 true (span 150 7) (span 308 3)))
    × (read_fields (encode (null_descriptor amd64 none)) ≡ Ok (R.NullDescriptor amd64 false (span 0 0)))
    × (read_fields (encode (null_descriptor amd64 (some (ascii "att")))) ≡ Ok (R.NullDescriptor amd64 true (span 127 3)))
    × (read_fields (encode (null_thunk i386 (ascii "/:"))) ≡ Ok (R.NullThunk i386 (span 131 2)))
    × (read_fields (encode (weak amd64 (ascii "_att_step") (ascii "att_go"))) ≡ Ok (R.WeakExternal amd64 (span 154 9) (span 164 6)))
    -- and what it does not admit: ARM64EC but in short imports, a DLL name the writer refuses, kind 3, an empty export string, an empty
    -- weak name
    × (read_fields (encode (weak arm64ec (ascii "t") (ascii "a"))) ≡ Err (refusal NotAMember 0))
    × (read_fields (encode (short arm64ec 0 0 1 (ascii "t") (ascii ".") [])) ≡ Err (refusal NotAMember 0))
    × (read_fields (encode (short arm64ec 0 3 1 (ascii "t") dll [])) ≡ Err (refusal NotAMember 0))
    × (read_fields (encode (exporting arm64ec "#" "")) ≡ Err (refusal NotAMember 0))
    × (read_fields (encode (weak amd64 [] (ascii "a"))) ≡ Err (refusal NotAMember 0))
    -- refusals: order and places
    × (written (on 0x1014C) [] 0 0 ≡ Err (refusal UnknownMachine 0))
    × (written (on amd64) (part (list []) 0 27) 0 0 ≡ Err (refusal TooShort 0))
    × (check_exports (on amd64) (le32 4097 ++ drop 4 (list [])) ≡ Err (refusal TooMany 0))
    × (check_exports (on amd64) (le32 4096 ++ le32 4096 ++ drop 8 (list [])) ≡ Err (refusal WrongLayout 0))
    × (check_exports (on amd64) (le32 0 ++ le32 0 ++ le32 29 ++ drop 12 (list [])) ≡ Err (refusal WrongLayout 0))
    × (check_exports (on amd64) (part (list []) 0 20 ++ le32 1 ++ le32 7 ++ dll) ≡ Err (refusal OutsideNames 0))
    × (check_exports (on amd64) (part (list []) 0 20 ++ le32 0 ++ le32 0 ++ dll) ≡ Err (refusal EmptyString 0))
    × (check_exports (on amd64) (part (list []) 0 20 ++ le32 7 ++ le32 0 ++ dll) ≡ Err (refusal EmptyString 0))
    × (check_exports (on amd64) (part (list []) 0 28 ++ ascii "att\0dll") ≡ Err (refusal HasNul 0))
    × (check_exports (on amd64) (part (list (named "f" 0 16 ∷ [])) 0 72 ++ ascii "att\\dllf") ≡ Err (refusal BarredDll 0))
    × (check_exports (on amd64) (part (list []) 0 20 ++ le32 3 ++ le32 1 ++ dll) ≡ Err (refusal BarredDll 0))
    × (check_exports (on arm64ec) (lists (named "?f" 0 4 ∷ named "f" 0 0 ∷ []) (named "?f" 0 0 ∷ renamed "a" "b" "_b" ∷ [])) ≡ Err (refusal NotRenamed 3))
    -- a record's flags come before its strings
    × (check_exports (on amd64) (list (named "f\0" 0 16 ∷ [])) ≡ Err (refusal UnknownFlag 0))
    -- private exports are left out; a constant is 2 even if data; its plain symbol stays
    × (firsts amd64 (named "a" 0 4 ∷ named "b" 7 10 ∷ []) ≡ short amd64 7 2 1 (ascii "b") dll [] ∷ [])
    × (led amd64 (named "a" 0 10 ∷ wants "b" "a" 0 ∷ []) (ascii "b") ≡ leads (by_name (ascii "a")))
    × (firsts amd64 (named "a" 0 0 ∷ wants "b" "a" 8 ∷ []) ≡ plain_short amd64 1 "a" ∷ weak amd64 (ascii "__imp_a") (ascii "__imp_b") ∷ [])
    -- import_name on I386: 3 before 2, then 1; the ordinal of a deferred one stays
    × (firsts i386 (wants "_f" "f" 0 ∷ []) ≡ plain_short i386 3 "_f" ∷ [])
    × (firsts amd64 (wants "f" "f" 0 ∷ []) ≡ plain_short amd64 1 "f" ∷ [])
    × (firsts amd64 (given (ascii "f" ∷ [] ∷ [] ∷ ascii "g" ∷ [] ∷ []) 7 0 ∷ []) ≡ short amd64 7 0 4 (ascii "f") dll (ascii "g") ∷ [])
    × (firsts arm64ec (wants "f" "f" 0 ∷ []) ≡ exporting arm64ec "#f" "f" ∷ [])
    × (firsts arm64ec (wants "?f" "g" 0 ∷ named "?f" 3 1 ∷ named "f" 0 2 ∷ []) ≡ exporting arm64ec "?f" "g" ∷ short arm64ec 3 0 0 (ascii "?f") dll [] ∷ short arm64ec 0 1 1 (ascii "f") dll [] ∷ [])
    × (firsts arm64ec (exported_as "f" "x" ∷ named "?f$$hg" 0 0 ∷ []) ≡ exporting arm64ec "#f" "x" ∷ exporting arm64ec "?f$$hg" "?fg" ∷ [])
    -- the type by base and name: a decorated name, with mingw and without; a base that differs, before the underscore
    × (firsts i386 (named "_f@4" 0 0 ∷ []) ≡ plain_short i386 1 "_f@4" ∷ [])
    × (first_members (record { machine = i386; mingw = true; compat = false }) (list (named "_f@4" 0 0 ∷ [])) ≡ plain_short i386 2 "_f@4" ∷ [])
    × (firsts amd64 (named "_f" 0 0 ∷ []) ≡ plain_short amd64 1 "_f" ∷ [])
    × (firsts i386 (given (ascii "f" ∷ [] ∷ ascii "_f@8" ∷ [] ∷ [] ∷ []) 0 0 ∷ []) ≡ plain_short i386 3 "_f@8" ∷ [])
    × (replace (ascii "f") (ascii "_g") (ascii "_f") ≡ none)
    × (replace (ascii "f") (ascii "_") (ascii "_x") ≡ some (ascii "xf"))
    × (replace (ascii "f") (ascii "_f") (ascii "x") ≡ none)
    -- ARM64EC and ARM64X: fixed members are ARM64's; the lists keep apart
    × (part (member_set (on arm64ec) (list [])) 40 2 ≡ le16 arm64)
    × (native_members (on arm64x) (lists (named "f" 0 0 ∷ []) (named "g" 0 0 ∷ [])) ≡ plain_short arm64 1 "g" ∷ [])
    -- lookup: the symbols of an ARM64EC import; not a set, before the list's number
    × (led arm64ec (named "f" 0 0 ∷ []) (ascii "__imp_aux_f") ≡ leads (by_name (ascii "f")))
    × (led arm64ec (named "f" 0 0 ∷ []) (ascii "#f") ≡ leads (by_name (ascii "f")))
    × (led arm64ec (named "f" 0 0 ∷ []) (ascii "__imp_#f") ≡ not_found)
    × (led amd64 (wants "b" "__imp_a" 0 ∷ named "__imp_a" 0 is_datum ∷ []) (ascii "b") ≡ nowhere)
    × (lookup (member_set (on amd64) (list (named "a" 0 0 ∷ []))) 3 (ascii "a") ≡ Ok L.NotFound)
    × (lookup (member_set (on amd64) (list []) ++ 0 ∷ []) 3 [] ≡ Err (refusal NotASet 0))
    × (lookup (le32 3 ++ le32 1 ++ drop 8 (member_set (on amd64) (list []))) 1 [] ≡ Err (refusal NotASet 0))
    × (lookup (set_bytes 0 0 (map encode (null_descriptor amd64 none ∷ descriptor amd64 dll false ∷ null_thunk amd64 (ascii "att") ∷ []))) 1 [] ≡ Err (refusal NotASet 0))
    × (lookup (set_bytes 2 0 (map encode (descriptor amd64 dll false ∷ null_descriptor amd64 none ∷ null_thunk amd64 (ascii "att") ∷ weak amd64 (ascii "b") (ascii "a") ∷ weak amd64 (ascii "a") (ascii "b") ∷ []))) 1 (ascii "a") ≡ Ok L.Nowhere)
    -- what asking answers; the writer's output
    × (asked (on amd64) (list []) ≡ Ok 684)
    × (asked (compat_on amd64) (list []) ≡ Ok 692)
    × (asked (on amd64) (lists (named "f" 0 0 ∷ []) (renamed "a" "b" "_b" ∷ [])) ≡ Err (refusal NotRenamed 1))
    × (part (output_after (on amd64) (list []) 8192 (replicate 686 9)) 682 4 ≡ 65 ∷ 0 ∷ 9 ∷ 9 ∷ [])
    × (firsts arm64ec (wants "f" "f" is_datum ∷ []) ≡ short arm64ec 0 1 4 (ascii "f") dll (ascii "f") ∷ [])
    × (check_exports (on amd64) (part (list (named "f" 0 0 ∷ [])) 0 36 ++ le32 1 ++ drop 40 (list (named "f" 0 0 ∷ []))) ≡ Err (refusal EmptyString 0))
    × (lookup (member_set (on amd64) (lists [] (named "a" 0 0 ∷ []))) 3 (ascii "a") ≡ Ok L.NotFound)
    × (check_exports (on amd64) (le32 0 ++ le32 0 ++ le32 28 ++ le32 28 ++ le32 256 ++ le32 0 ++ le32 256 ++ replicate 256 97) ≡ Err (refusal TooLong 0))
    × (read_fields (encode (short amd64 0 0 1 (replicate 8191 97) dll [])) ≡ Err (refusal NotAMember 0))
    -- the paper's number of each reason, in the order of its table
    × (map Numbers.number_of (UnknownMachine ∷ TooShort ∷ TooMany ∷ WrongLayout ∷ OutsideNames ∷ EmptyString ∷ TooLong ∷ HasNul ∷ UnknownFlag ∷ BarredDll ∷ NotRenamed ∷ NoPublicName ∷ NotMangled ∷ NotDemangled ∷ NoRoom ∷ NotAMember ∷ NotASet ∷ FewSlots ∷ []) ≡ 1 ∷ 2 ∷ 3 ∷ 4 ∷ 5 ∷ 6 ∷ 7 ∷ 8 ∷ 9 ∷ 10 ∷ 11 ∷ 12 ∷ 13 ∷ 14 ∷ 15 ∷ 16 ∷ 17 ∷ 19 ∷ [])
    -- the bytes of the other four layouts, as the Rust writes them
    × (encode (descriptor i386 (ascii "a.d") true) ≡ (76 ∷ 1 ∷ 2 ∷ 0 ∷ 0 ∷ 0 ∷ 0 ∷ 0 ∷ 154 ∷ 0 ∷ 0 ∷ 0 ∷ 7 ∷ 0 ∷ 0 ∷ 0 ∷ 0 ∷ 0 ∷ 0 ∷ 1 ∷ 46 ∷ 105 ∷ 100 ∷ 97 ∷ 116 ∷ 97 ∷ 36 ∷ 50 ∷ 0 ∷ 0 ∷ 0 ∷ 0 ∷ 0 ∷ 0 ∷ 0 ∷ 0 ∷ 20 ∷ 0 ∷ 0 ∷ 0 ∷ 100 ∷ 0 ∷ 0 ∷ 0 ∷ 120 ∷ 0 ∷ 0 ∷ 0 ∷ 0 ∷ 0 ∷ 0 ∷ 0 ∷ 3 ∷ 0 ∷ 0 ∷ 0 ∷ 64 ∷ 0 ∷ 48 ∷ 192 ∷ 46 ∷ 105 ∷ 100 ∷ 97 ∷ 116 ∷ 97 ∷ 36 ∷ 54 ∷ 0 ∷ 0 ∷ 0 ∷ 0 ∷ 0 ∷ 0 ∷ 0 ∷ 0 ∷ 4 ∷ 0 ∷ 0 ∷ 0 ∷ 150 ∷ 0 ∷ 0 ∷ 0 ∷ 0 ∷ 0 ∷ 0 ∷ 0 ∷ 0 ∷ 0 ∷ 0 ∷ 0 ∷ 0 ∷ 0 ∷ 0 ∷ 0 ∷ 64 ∷ 0 ∷ 32 ∷ 192 ∷ 0 ∷ 0 ∷ 0 ∷ 0 ∷ 0 ∷ 0 ∷ 0 ∷ 0 ∷ 0 ∷ 0 ∷ 0 ∷ 0 ∷ 0 ∷ 0 ∷ 0 ∷ 0 ∷ 0 ∷ 0 ∷ 0 ∷ 0 ∷ 12 ∷ 0 ∷ 0 ∷ 0 ∷ 2 ∷ 0 ∷ 0 ∷ 0 ∷ 7 ∷ 0 ∷ 0 ∷ 0 ∷ 0 ∷ 0 ∷ 3 ∷ 0 ∷ 0 ∷ 0 ∷ 7 ∷ 0 ∷ 16 ∷ 0 ∷ 0 ∷ 0 ∷ 4 ∷ 0 ∷ 0 ∷ 0 ∷ 7 ∷ 0 ∷ 97 ∷ 46 ∷ 100 ∷ 0 ∷ 0 ∷ 0 ∷ 0 ∷ 0 ∷ 4 ∷ 0 ∷ 0 ∷ 0 ∷ 0 ∷ 0 ∷ 0 ∷ 0 ∷ 1 ∷ 0 ∷ 0 ∷ 0 ∷ 2 ∷ 0 ∷ 46 ∷ 105 ∷ 100 ∷ 97 ∷ 116 ∷ 97 ∷ 36 ∷ 50 ∷ 0 ∷ 0 ∷ 0 ∷ 0 ∷ 1 ∷ 0 ∷ 0 ∷ 0 ∷ 104 ∷ 0 ∷ 46 ∷ 105 ∷ 100 ∷ 97 ∷ 116 ∷ 97 ∷ 36 ∷ 54 ∷ 0 ∷ 0 ∷ 0 ∷ 0 ∷ 2 ∷ 0 ∷ 0 ∷ 0 ∷ 3 ∷ 0 ∷ 46 ∷ 105 ∷ 100 ∷ 97 ∷ 116 ∷ 97 ∷ 36 ∷ 52 ∷ 0 ∷ 0 ∷ 0 ∷ 0 ∷ 0 ∷ 0 ∷ 0 ∷ 0 ∷ 104 ∷ 0 ∷ 46 ∷ 105 ∷ 100 ∷ 97 ∷ 116 ∷ 97 ∷ 36 ∷ 53 ∷ 0 ∷ 0 ∷ 0 ∷ 0 ∷ 0 ∷ 0 ∷ 0 ∷ 0 ∷ 104 ∷ 0 ∷ 0 ∷ 0 ∷ 0 ∷ 0 ∷ 26 ∷ 0 ∷ 0 ∷ 0 ∷ 0 ∷ 0 ∷ 0 ∷ 0 ∷ 0 ∷ 0 ∷ 0 ∷ 0 ∷ 2 ∷ 0 ∷ 0 ∷ 0 ∷ 0 ∷ 0 ∷ 53 ∷ 0 ∷ 0 ∷ 0 ∷ 0 ∷ 0 ∷ 0 ∷ 0 ∷ 0 ∷ 0 ∷ 0 ∷ 0 ∷ 2 ∷ 0 ∷ 72 ∷ 0 ∷ 0 ∷ 0 ∷ 95 ∷ 95 ∷ 73 ∷ 77 ∷ 80 ∷ 79 ∷ 82 ∷ 84 ∷ 95 ∷ 68 ∷ 69 ∷ 83 ∷ 67 ∷ 82 ∷ 73 ∷ 80 ∷ 84 ∷ 79 ∷ 82 ∷ 95 ∷ 97 ∷ 0 ∷ 95 ∷ 95 ∷ 78 ∷ 85 ∷ 76 ∷ 76 ∷ 95 ∷ 73 ∷ 77 ∷ 80 ∷ 79 ∷ 82 ∷ 84 ∷ 95 ∷ 68 ∷ 69 ∷ 83 ∷ 67 ∷ 82 ∷ 73 ∷ 80 ∷ 84 ∷ 79 ∷ 82 ∷ 95 ∷ 97 ∷ 0 ∷ 127 ∷ 97 ∷ 95 ∷ 78 ∷ 85 ∷ 76 ∷ 76 ∷ 95 ∷ 84 ∷ 72 ∷ 85 ∷ 78 ∷ 75 ∷ 95 ∷ 68 ∷ 65 ∷ 84 ∷ 65 ∷ 0 ∷ []))
    × (encode (descriptor amd64 (ascii "a.d") false) ≡ (100 ∷ 134 ∷ 2 ∷ 0 ∷ 0 ∷ 0 ∷ 0 ∷ 0 ∷ 154 ∷ 0 ∷ 0 ∷ 0 ∷ 7 ∷ 0 ∷ 0 ∷ 0 ∷ 0 ∷ 0 ∷ 0 ∷ 0 ∷ 46 ∷ 105 ∷ 100 ∷ 97 ∷ 116 ∷ 97 ∷ 36 ∷ 50 ∷ 0 ∷ 0 ∷ 0 ∷ 0 ∷ 0 ∷ 0 ∷ 0 ∷ 0 ∷ 20 ∷ 0 ∷ 0 ∷ 0 ∷ 100 ∷ 0 ∷ 0 ∷ 0 ∷ 120 ∷ 0 ∷ 0 ∷ 0 ∷ 0 ∷ 0 ∷ 0 ∷ 0 ∷ 3 ∷ 0 ∷ 0 ∷ 0 ∷ 64 ∷ 0 ∷ 48 ∷ 192 ∷ 46 ∷ 105 ∷ 100 ∷ 97 ∷ 116 ∷ 97 ∷ 36 ∷ 54 ∷ 0 ∷ 0 ∷ 0 ∷ 0 ∷ 0 ∷ 0 ∷ 0 ∷ 0 ∷ 4 ∷ 0 ∷ 0 ∷ 0 ∷ 150 ∷ 0 ∷ 0 ∷ 0 ∷ 0 ∷ 0 ∷ 0 ∷ 0 ∷ 0 ∷ 0 ∷ 0 ∷ 0 ∷ 0 ∷ 0 ∷ 0 ∷ 0 ∷ 64 ∷ 0 ∷ 32 ∷ 192 ∷ 0 ∷ 0 ∷ 0 ∷ 0 ∷ 0 ∷ 0 ∷ 0 ∷ 0 ∷ 0 ∷ 0 ∷ 0 ∷ 0 ∷ 0 ∷ 0 ∷ 0 ∷ 0 ∷ 0 ∷ 0 ∷ 0 ∷ 0 ∷ 12 ∷ 0 ∷ 0 ∷ 0 ∷ 2 ∷ 0 ∷ 0 ∷ 0 ∷ 3 ∷ 0 ∷ 0 ∷ 0 ∷ 0 ∷ 0 ∷ 3 ∷ 0 ∷ 0 ∷ 0 ∷ 3 ∷ 0 ∷ 16 ∷ 0 ∷ 0 ∷ 0 ∷ 4 ∷ 0 ∷ 0 ∷ 0 ∷ 3 ∷ 0 ∷ 97 ∷ 46 ∷ 100 ∷ 0 ∷ 0 ∷ 0 ∷ 0 ∷ 0 ∷ 4 ∷ 0 ∷ 0 ∷ 0 ∷ 0 ∷ 0 ∷ 0 ∷ 0 ∷ 1 ∷ 0 ∷ 0 ∷ 0 ∷ 2 ∷ 0 ∷ 46 ∷ 105 ∷ 100 ∷ 97 ∷ 116 ∷ 97 ∷ 36 ∷ 50 ∷ 0 ∷ 0 ∷ 0 ∷ 0 ∷ 1 ∷ 0 ∷ 0 ∷ 0 ∷ 104 ∷ 0 ∷ 46 ∷ 105 ∷ 100 ∷ 97 ∷ 116 ∷ 97 ∷ 36 ∷ 54 ∷ 0 ∷ 0 ∷ 0 ∷ 0 ∷ 2 ∷ 0 ∷ 0 ∷ 0 ∷ 3 ∷ 0 ∷ 46 ∷ 105 ∷ 100 ∷ 97 ∷ 116 ∷ 97 ∷ 36 ∷ 52 ∷ 0 ∷ 0 ∷ 0 ∷ 0 ∷ 0 ∷ 0 ∷ 0 ∷ 0 ∷ 104 ∷ 0 ∷ 46 ∷ 105 ∷ 100 ∷ 97 ∷ 116 ∷ 97 ∷ 36 ∷ 53 ∷ 0 ∷ 0 ∷ 0 ∷ 0 ∷ 0 ∷ 0 ∷ 0 ∷ 0 ∷ 104 ∷ 0 ∷ 0 ∷ 0 ∷ 0 ∷ 0 ∷ 26 ∷ 0 ∷ 0 ∷ 0 ∷ 0 ∷ 0 ∷ 0 ∷ 0 ∷ 0 ∷ 0 ∷ 0 ∷ 0 ∷ 2 ∷ 0 ∷ 0 ∷ 0 ∷ 0 ∷ 0 ∷ 51 ∷ 0 ∷ 0 ∷ 0 ∷ 0 ∷ 0 ∷ 0 ∷ 0 ∷ 0 ∷ 0 ∷ 0 ∷ 0 ∷ 2 ∷ 0 ∷ 70 ∷ 0 ∷ 0 ∷ 0 ∷ 95 ∷ 95 ∷ 73 ∷ 77 ∷ 80 ∷ 79 ∷ 82 ∷ 84 ∷ 95 ∷ 68 ∷ 69 ∷ 83 ∷ 67 ∷ 82 ∷ 73 ∷ 80 ∷ 84 ∷ 79 ∷ 82 ∷ 95 ∷ 97 ∷ 0 ∷ 95 ∷ 95 ∷ 78 ∷ 85 ∷ 76 ∷ 76 ∷ 95 ∷ 73 ∷ 77 ∷ 80 ∷ 79 ∷ 82 ∷ 84 ∷ 95 ∷ 68 ∷ 69 ∷ 83 ∷ 67 ∷ 82 ∷ 73 ∷ 80 ∷ 84 ∷ 79 ∷ 82 ∷ 0 ∷ 127 ∷ 97 ∷ 95 ∷ 78 ∷ 85 ∷ 76 ∷ 76 ∷ 95 ∷ 84 ∷ 72 ∷ 85 ∷ 78 ∷ 75 ∷ 95 ∷ 68 ∷ 65 ∷ 84 ∷ 65 ∷ 0 ∷ []))
    × (encode (null_descriptor armnt none) ≡ (196 ∷ 1 ∷ 1 ∷ 0 ∷ 0 ∷ 0 ∷ 0 ∷ 0 ∷ 80 ∷ 0 ∷ 0 ∷ 0 ∷ 1 ∷ 0 ∷ 0 ∷ 0 ∷ 0 ∷ 0 ∷ 0 ∷ 1 ∷ 46 ∷ 105 ∷ 100 ∷ 97 ∷ 116 ∷ 97 ∷ 36 ∷ 51 ∷ 0 ∷ 0 ∷ 0 ∷ 0 ∷ 0 ∷ 0 ∷ 0 ∷ 0 ∷ 20 ∷ 0 ∷ 0 ∷ 0 ∷ 60 ∷ 0 ∷ 0 ∷ 0 ∷ 0 ∷ 0 ∷ 0 ∷ 0 ∷ 0 ∷ 0 ∷ 0 ∷ 0 ∷ 0 ∷ 0 ∷ 0 ∷ 0 ∷ 64 ∷ 0 ∷ 48 ∷ 192 ∷ 0 ∷ 0 ∷ 0 ∷ 0 ∷ 0 ∷ 0 ∷ 0 ∷ 0 ∷ 0 ∷ 0 ∷ 0 ∷ 0 ∷ 0 ∷ 0 ∷ 0 ∷ 0 ∷ 0 ∷ 0 ∷ 0 ∷ 0 ∷ 0 ∷ 0 ∷ 0 ∷ 0 ∷ 4 ∷ 0 ∷ 0 ∷ 0 ∷ 0 ∷ 0 ∷ 0 ∷ 0 ∷ 1 ∷ 0 ∷ 0 ∷ 0 ∷ 2 ∷ 0 ∷ 29 ∷ 0 ∷ 0 ∷ 0 ∷ 95 ∷ 95 ∷ 78 ∷ 85 ∷ 76 ∷ 76 ∷ 95 ∷ 73 ∷ 77 ∷ 80 ∷ 79 ∷ 82 ∷ 84 ∷ 95 ∷ 68 ∷ 69 ∷ 83 ∷ 67 ∷ 82 ∷ 73 ∷ 80 ∷ 84 ∷ 79 ∷ 82 ∷ 0 ∷ []))
    × (encode (null_thunk armnt (ascii "a")) ≡ (196 ∷ 1 ∷ 2 ∷ 0 ∷ 0 ∷ 0 ∷ 0 ∷ 0 ∷ 108 ∷ 0 ∷ 0 ∷ 0 ∷ 1 ∷ 0 ∷ 0 ∷ 0 ∷ 0 ∷ 0 ∷ 0 ∷ 1 ∷ 46 ∷ 105 ∷ 100 ∷ 97 ∷ 116 ∷ 97 ∷ 36 ∷ 53 ∷ 0 ∷ 0 ∷ 0 ∷ 0 ∷ 0 ∷ 0 ∷ 0 ∷ 0 ∷ 4 ∷ 0 ∷ 0 ∷ 0 ∷ 100 ∷ 0 ∷ 0 ∷ 0 ∷ 0 ∷ 0 ∷ 0 ∷ 0 ∷ 0 ∷ 0 ∷ 0 ∷ 0 ∷ 0 ∷ 0 ∷ 0 ∷ 0 ∷ 64 ∷ 0 ∷ 48 ∷ 192 ∷ 46 ∷ 105 ∷ 100 ∷ 97 ∷ 116 ∷ 97 ∷ 36 ∷ 52 ∷ 0 ∷ 0 ∷ 0 ∷ 0 ∷ 0 ∷ 0 ∷ 0 ∷ 0 ∷ 4 ∷ 0 ∷ 0 ∷ 0 ∷ 104 ∷ 0 ∷ 0 ∷ 0 ∷ 0 ∷ 0 ∷ 0 ∷ 0 ∷ 0 ∷ 0 ∷ 0 ∷ 0 ∷ 0 ∷ 0 ∷ 0 ∷ 0 ∷ 64 ∷ 0 ∷ 48 ∷ 192 ∷ 0 ∷ 0 ∷ 0 ∷ 0 ∷ 0 ∷ 0 ∷ 0 ∷ 0 ∷ 0 ∷ 0 ∷ 0 ∷ 0 ∷ 4 ∷ 0 ∷ 0 ∷ 0 ∷ 0 ∷ 0 ∷ 0 ∷ 0 ∷ 1 ∷ 0 ∷ 0 ∷ 0 ∷ 2 ∷ 0 ∷ 23 ∷ 0 ∷ 0 ∷ 0 ∷ 127 ∷ 97 ∷ 95 ∷ 78 ∷ 85 ∷ 76 ∷ 76 ∷ 95 ∷ 84 ∷ 72 ∷ 85 ∷ 78 ∷ 75 ∷ 95 ∷ 68 ∷ 65 ∷ 84 ∷ 65 ∷ 0 ∷ []))
    × (encode (null_thunk arm64 (ascii "a")) ≡ (100 ∷ 170 ∷ 2 ∷ 0 ∷ 0 ∷ 0 ∷ 0 ∷ 0 ∷ 116 ∷ 0 ∷ 0 ∷ 0 ∷ 1 ∷ 0 ∷ 0 ∷ 0 ∷ 0 ∷ 0 ∷ 0 ∷ 0 ∷ 46 ∷ 105 ∷ 100 ∷ 97 ∷ 116 ∷ 97 ∷ 36 ∷ 53 ∷ 0 ∷ 0 ∷ 0 ∷ 0 ∷ 0 ∷ 0 ∷ 0 ∷ 0 ∷ 8 ∷ 0 ∷ 0 ∷ 0 ∷ 100 ∷ 0 ∷ 0 ∷ 0 ∷ 0 ∷ 0 ∷ 0 ∷ 0 ∷ 0 ∷ 0 ∷ 0 ∷ 0 ∷ 0 ∷ 0 ∷ 0 ∷ 0 ∷ 64 ∷ 0 ∷ 64 ∷ 192 ∷ 46 ∷ 105 ∷ 100 ∷ 97 ∷ 116 ∷ 97 ∷ 36 ∷ 52 ∷ 0 ∷ 0 ∷ 0 ∷ 0 ∷ 0 ∷ 0 ∷ 0 ∷ 0 ∷ 8 ∷ 0 ∷ 0 ∷ 0 ∷ 108 ∷ 0 ∷ 0 ∷ 0 ∷ 0 ∷ 0 ∷ 0 ∷ 0 ∷ 0 ∷ 0 ∷ 0 ∷ 0 ∷ 0 ∷ 0 ∷ 0 ∷ 0 ∷ 64 ∷ 0 ∷ 64 ∷ 192 ∷ 0 ∷ 0 ∷ 0 ∷ 0 ∷ 0 ∷ 0 ∷ 0 ∷ 0 ∷ 0 ∷ 0 ∷ 0 ∷ 0 ∷ 0 ∷ 0 ∷ 0 ∷ 0 ∷ 0 ∷ 0 ∷ 0 ∷ 0 ∷ 4 ∷ 0 ∷ 0 ∷ 0 ∷ 0 ∷ 0 ∷ 0 ∷ 0 ∷ 1 ∷ 0 ∷ 0 ∷ 0 ∷ 2 ∷ 0 ∷ 23 ∷ 0 ∷ 0 ∷ 0 ∷ 127 ∷ 97 ∷ 95 ∷ 78 ∷ 85 ∷ 76 ∷ 76 ∷ 95 ∷ 84 ∷ 72 ∷ 85 ∷ 78 ∷ 75 ∷ 95 ∷ 68 ∷ 65 ∷ 84 ∷ 65 ∷ 0 ∷ []))
    × (encode (weak i386 (ascii "t") (ascii "ab")) ≡ (76 ∷ 1 ∷ 1 ∷ 0 ∷ 0 ∷ 0 ∷ 0 ∷ 0 ∷ 60 ∷ 0 ∷ 0 ∷ 0 ∷ 5 ∷ 0 ∷ 0 ∷ 0 ∷ 0 ∷ 0 ∷ 0 ∷ 0 ∷ 46 ∷ 100 ∷ 114 ∷ 101 ∷ 99 ∷ 116 ∷ 118 ∷ 101 ∷ 0 ∷ 0 ∷ 0 ∷ 0 ∷ 0 ∷ 0 ∷ 0 ∷ 0 ∷ 0 ∷ 0 ∷ 0 ∷ 0 ∷ 0 ∷ 0 ∷ 0 ∷ 0 ∷ 0 ∷ 0 ∷ 0 ∷ 0 ∷ 0 ∷ 0 ∷ 0 ∷ 0 ∷ 0 ∷ 0 ∷ 0 ∷ 0 ∷ 0 ∷ 10 ∷ 0 ∷ 0 ∷ 64 ∷ 99 ∷ 111 ∷ 109 ∷ 112 ∷ 46 ∷ 105 ∷ 100 ∷ 0 ∷ 0 ∷ 0 ∷ 0 ∷ 255 ∷ 255 ∷ 0 ∷ 0 ∷ 3 ∷ 0 ∷ 64 ∷ 102 ∷ 101 ∷ 97 ∷ 116 ∷ 46 ∷ 48 ∷ 48 ∷ 0 ∷ 0 ∷ 0 ∷ 0 ∷ 255 ∷ 255 ∷ 0 ∷ 0 ∷ 3 ∷ 0 ∷ 0 ∷ 0 ∷ 0 ∷ 0 ∷ 4 ∷ 0 ∷ 0 ∷ 0 ∷ 0 ∷ 0 ∷ 0 ∷ 0 ∷ 0 ∷ 0 ∷ 0 ∷ 0 ∷ 2 ∷ 0 ∷ 0 ∷ 0 ∷ 0 ∷ 0 ∷ 6 ∷ 0 ∷ 0 ∷ 0 ∷ 0 ∷ 0 ∷ 0 ∷ 0 ∷ 0 ∷ 0 ∷ 0 ∷ 0 ∷ 105 ∷ 1 ∷ 2 ∷ 0 ∷ 0 ∷ 0 ∷ 3 ∷ 0 ∷ 0 ∷ 0 ∷ 0 ∷ 0 ∷ 0 ∷ 0 ∷ 0 ∷ 0 ∷ 0 ∷ 0 ∷ 0 ∷ 0 ∷ 9 ∷ 0 ∷ 0 ∷ 0 ∷ 116 ∷ 0 ∷ 97 ∷ 98 ∷ 0 ∷ []))
unfolding Bytes.opened Machines.opened Exports.opened Names.opened Plan.opened Layouts.opened Library.opened Refusals.opened Reader.opened Lookup.opened Demands.opened Answers.opened Numbers.number_of
table = (
  refl,
  refl,
  refl,
  refl,
  refl,
  refl,
  refl,
  refl,
  refl,
  refl,
  refl,
  refl,
  refl,
  refl,
  refl,
  refl,
  refl,
  refl,
  refl,
  refl,
  refl,
  refl,
  refl,
  refl,
  refl,
  refl,
  refl,
  refl,
  refl,
  refl,
  refl,
  refl,
  refl,
  refl,
  refl,
  refl,
  refl,
  refl,
  refl,
  refl,
  refl,
  refl,
  refl,
  refl,
  refl,
  refl,
  refl,
  refl,
  refl,
  refl,
  refl,
  refl,
  refl,
  refl,
  refl,
  refl,
  refl,
  refl,
  refl,
  refl,
  refl,
  refl,
  refl,
  refl,
  refl,
  refl,
  refl,
  refl,
  refl,
  refl,
  refl,
  refl,
  refl,
  refl,
  refl,
  refl,
  refl,
  refl,
  refl,
  refl,
  refl,
  refl,
  refl,
  refl,
  refl,
  refl,
  refl,
  refl,
  refl,
  refl,
  refl,
  refl,
  refl,
  refl,
  refl,
  refl,
  refl,
  refl,
  refl,
  refl,
  refl,
  refl,
  refl,
  refl,
  refl,
  refl,
  refl,
  refl,
  refl,
  refl,
  refl,
  refl,
  refl,
  refl,
  refl,
)

-- private records before and behind, one of the same name, and one in the native list: the names differ, and the lists are alike
pub hidden : Alike (on amd64) (list (named "a" 5 0 ∷ [])) (lists (named "t" 9 4 ∷ named "a" 5 0 ∷ named "a" 7 5 ∷ []) (named "u" 0 4 ∷ []))
unfolding Bytes.opened Machines.opened Exports.opened Names.opened Plan.opened Refusals.opened
hidden =
    record {
      accepted = (refl, refl);
      dll = refl;
      first =
          private_right refl
          (same_next
          (record { name = refl; ext_name = refl; symbol_name = refl; import_name = refl; export_as = refl; ordinal = refl; flags = refl })
          (private_right refl no_more));
      native = private_right refl no_more;
    }

-- one slot is too few: whatever meets the writer's promise answers 19, and leaves the slot and the output as they were
pub one_slot : (r : Written) (slots : List ℕ) (out : Bytes) → Writes (on amd64) (list []) (7 ∷ []) (9 ∷ []) r slots out → (r ≡ Err (refusal FewSlots 0)) × (slots ≡ 7 ∷ []) × (out ≡ 9 ∷ [])
unfolding Bytes.opened Machines.opened Exports.opened Names.opened Plan.opened Layouts.opened Library.opened Refusals.opened Answers.opened Numbers.number_of
one_slot r slots out w =
    let is : r ≡ Err (refusal FewSlots 0) = w.answers in
    (is, w.table (ap Answers.answer_number is), w.output)
