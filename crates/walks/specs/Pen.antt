-- Members drawn into an output with two places: where the next directory entry goes, and where the next member.
use Rattle.std.specs.Prelude.{ℕ, ◌+◌, ◌*◌, ◌/◌, ◌%◌, ◌≤◌, ◌<◌, ◌≡◌, Bool, List, [], ◌∷◌, map, ◌++◌, length}
use Rattle.wire.specs.Bytes.{Bytes, le32, join}
use Rattle.wire.specs.Writes.{over, Wrote}
use Rattle.format.specs.Names.{stem}
use Rattle.format.specs.Layouts.{Member, descriptor, null_descriptor, null_thunk, compat_stem, encode}
use Rattle.format.specs.Library.{entry_size, directory}

-- a pen is one number: where the next entry goes, and, in its upper half, where the next member goes
abbrev pub entry_of : ℕ → ℕ
entry_of pen = pen % 4294967296

abbrev pub at_of : ℕ → ℕ
at_of pen = pen / 4294967296

-- the entries of members and the members themselves were laid over l, which left l'; the next places are after them, also where they are past
-- the end of l
pub record Drew (l : Bytes) (entry at : ℕ) (ms : List Member) (l' : Bytes) (entry' at' : ℕ) : Type 0 where
  pub bytes : l' ≡ over entry (directory at (map encode ms)) (over at (join (map encode ms)) l)
  pub entries : entry' ≡ entry + entry_size * length ms
  pub next : at' ≡ at + length (join (map encode ms))

-- the places that members take: their entries stand before them, and they end below 2^32
pub record Room (entry at : ℕ) (ms : List Member) : Type 0 where
  pub apart : entry + entry_size * length ms ≤ at
  pub small : at + length (join (map encode ms)) < 4294967296

-- the entry of a member of a size was laid over l, which left l'
pub record Noted (l : Bytes) (entry at size : ℕ) (l' : Bytes) (entry' at' : ℕ) : Type 0 where
  pub end : ℕ
  pub wrote : Wrote l entry (le32 at ++ le32 size) l' end
  pub entries : entry' ≡ entry + entry_size
  pub ends : at' ≡ at + size

-- the three fixed members of a machine and a DLL name
abbrev pub fixed_of : ℕ → Bytes → Bool → List Member
fixed_of m dll compat = descriptor m dll compat ∷ null_descriptor m (compat_stem compat (stem dll)) ∷ null_thunk m (stem dll) ∷ []
