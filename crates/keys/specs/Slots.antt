-- A table of 8,192 slots, as a function of the place: each has a state, a hash and a record's number. A key is looked for from the slot of its hash on.
use Rattle.std.specs.Prelude.{◌≡◌, ℕ, zero, suc, ◌+◌, ◌%◌, ◌<◌, ◌≤◌, Bool, ◌&&◌, ◌||◌, List, [], ◌∷◌, ◌==◌, nat_eq, slice_index, slice_index_or, if◌then◌else◌, None, Some}
use Rattle.std.specs.Prelude as std
use Rattle.std.proofs.Math.Option.{Option, none, some}
use Rattle.wire.specs.Bytes.{Bytes, first}
use Rattle.plans.specs.Keys.{last_in}
use Rattle.keys.specs.Hash.{hash_of}
use Rattle.keys.specs.declared.Slot.{Slot}
use Rattle.keys.specs.declared.Spot.{Spot}
use Rattle.keys.specs.declared.Spot.TheVariants as S

-- ---- a slot as a row of three numbers

-- the slot that a row is
abbrev pub slot_of : List ℕ → Slot
slot_of r = record { state = slice_index r 0; hash = slice_index r 1; «record» = slice_index r 2 }

-- the row that a slot is
abbrev pub row_of : Slot → List ℕ
row_of s = s.state ∷ s.hash ∷ s.«record» ∷ []

-- the slot at a place
abbrev pub slot_at : List (List ℕ) → ℕ → Slot
slot_at rows i = slot_of (slice_index_or rows i [])

-- the slot of the record k, whose key has the hash h
abbrev pub holding : ℕ → ℕ → Slot
holding h k = record { state = 1; hash = h; «record» = k }

-- ---- a search

-- the place that is tried after d others
abbrev pub probe : ℕ → ℕ → ℕ
probe h d = (h + d) % 8192

-- a slot that has a record
abbrev pub Used : (ℕ → Slot) → ℕ → Type 0
Used f s = (f s).state ≡ 0 → ⊥

-- how many of the first n are used
unfoldable pub used_of : (ℕ → Slot) → ℕ → ℕ
used_of f zero = 0
used_of f (suc n) = used_of f n + (if nat_eq (f n).state 0 then 0 else 1)

-- the records in the slots are below n
abbrev pub Within : ℕ → (ℕ → Slot) → Type 0
Within n f = (s : ℕ) → s < 8192 → Used f s → (f s).«record» < n

-- a search for a key ends at a slot that is free, or has the hash and a record with that key; p w k: the record k has the key w
unfoldable pub ends : (Bytes → ℕ → Bool) → (ℕ → Slot) → Bytes → ℕ → Bool
ends p f w d =
    let s = f (probe (hash_of w) d) in
    (s.state == 0) || (s.hash == hash_of w && p w s.«record»)

-- what stands at a place where a search ended
unfoldable pub spot_at : (ℕ → Slot) → ℕ → std.Option Spot
spot_at f s = if (f s).state == 0 then Some (S.Free s) else Some (S.Used s (f s).«record»)

-- where a search ended that tried d slots before, or all
unfoldable pub spot_of : (ℕ → Slot) → Bytes → Option ℕ → std.Option Spot
spot_of f w none = None
spot_of f w (some d) = spot_at f (probe (hash_of w) d)

-- where the search for a key ends
abbrev pub sought : (Bytes → ℕ → Bool) → (ℕ → Slot) → Bytes → std.Option Spot
sought p f w = spot_of f w (first (ends p f w) 0 8192)

-- ---- what a table holds when n records from one on were entered

-- a used slot: it has the last record with some key, and the hash of that key
pub record Filled (p : Bytes → ℕ → Bool) (from n : ℕ) (f : ℕ → Slot) (s : ℕ) : Type 0 where
  pub key : Bytes
  pub hashed : (f s).hash ≡ hash_of key
  pub latest : last_in (p key) from n ≡ some (f s).«record»

-- a key's record: its slot is one that a search for the key tries, and those tried before are used
pub record Reached (f : ℕ → Slot) (w : Bytes) (i : ℕ) : Type 0 where
  pub after : ℕ
  pub near : after < 8192
  pub used : Used f (probe (hash_of w) after)
  pub there : (f (probe (hash_of w) after)).«record» ≡ i
  pub between : (d : ℕ) → d < after → Used f (probe (hash_of w) d)

-- the table: its used slots are filled and differ, each key that a record has is reached, and no more are used than were entered
pub record Entered (p : Bytes → ℕ → Bool) (from n : ℕ) (f : ℕ → Slot) : Type 0 where
  pub filled : (s : ℕ) → s < 8192 → Used f s → Filled p from n f s
  pub apart : (s r : ℕ) → s < 8192 → r < 8192 → Used f s → Used f r → (f s).«record» ≡ (f r).«record» → s ≡ r
  pub reached : (w : Bytes) (i : ℕ) → last_in (p w) from n ≡ some i → Reached f w i
  pub few : used_of f 8192 ≤ n
