-- All members of a library, by the machines of the two lists; and what drawing them tells.
use Rattle.std.specs.Prelude.{ℕ, ◌+◌, ◌*◌, ◌≡◌, Bool, List, map, ◌++◌, length}
use Rattle.wire.specs.Bytes.{Bytes, le32, join}
use Rattle.format.specs.Machines.{arm64ec, first_machine, native_machine}
use Rattle.format.specs.Exports.{first_count, native_count, first_exports, native_exports}
use Rattle.format.specs.Layouts.{Member, encode}
use Rattle.format.specs.Library.{Options, set_header_size, entry_size, members_of, first_members, native_members, all_members}
use Rattle.keys.specs.Targets.{Resolved}
use Rattle.walks.specs.Pen.{Drew, fixed_of}

-- the aliases of both lists were resolved; on ARM64EC there are none
pub record ResolvedBy (first native : ℕ) (mingw : Bool) (b : Bytes) (targets : List ℕ) : Type 0 where
  pub firsts : (first ≡ arm64ec → ⊥) → Resolved first mingw b 0 (first_count b) targets
  pub natives : (native ≡ arm64ec → ⊥) → Resolved native mingw b (first_count b) (native_count b) targets

abbrev pub ResolvedAll : ℕ → Bool → Bytes → List ℕ → Type 0
ResolvedAll machine mingw b targets = ResolvedBy (first_machine machine) (native_machine machine) mingw b targets

-- the three fixed members, the first list and the native list
abbrev pub members_by : ℕ → ℕ → Bool → Bool → Bytes → Bytes → List Member
members_by first native mingw compat dll b =
    fixed_of native dll compat ++ members_of first mingw dll (first_exports b) ++ members_of native mingw dll (native_exports b)

-- all of them were drawn, and so many of each list
pub record DrewBy (first native : ℕ) (mingw compat : Bool) (dll b l : Bytes) (entry at : ℕ) (l' : Bytes) (entry' at' firsts natives : ℕ) : Type 0 where
  pub drew : Drew l entry at (members_by first native mingw compat dll b) l' entry' at'
  pub first_count : firsts ≡ length (members_of first mingw dll (first_exports b))
  pub native_count : natives ≡ length (members_of native mingw dll (native_exports b))

-- the same of a list under its options
pub record DrewAll (o : Options) (b l : Bytes) (entry at : ℕ) (l' : Bytes) (entry' at' firsts natives : ℕ) : Type 0 where
  pub drew : Drew l entry at (all_members o b) l' entry' at'
  pub first_count : firsts ≡ length (first_members o b)
  pub native_count : natives ≡ length (native_members o b)

-- where all members are measured from: no first member of a set stands farther
abbrev pub farthest : ℕ
farthest = set_header_size + entry_size * 16387

-- how large a set is: where its first member stands, the bytes of its members, and how many each list has
pub record Measured (o : Options) (b : Bytes) (first_at end firsts natives : ℕ) : Type 0 where
  pub entries : first_at ≡ set_header_size + entry_size * length (all_members o b)
  pub bytes : end ≡ farthest + length (join (map encode (all_members o b)))
  pub first_count : firsts ≡ length (first_members o b)
  pub native_count : natives ≡ length (native_members o b)

-- the header of a set
abbrev pub header_bytes : ℕ → ℕ → ℕ → Bytes
header_bytes firsts natives first_at = le32 (3 + firsts + natives) ++ le32 firsts ++ le32 natives ++ le32 first_at
