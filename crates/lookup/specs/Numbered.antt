-- The lookup over a set's members by their numbers in the directory, where a member is what its bytes are read as.
use Rattle.std.specs.Prelude.{ℕ, zero, suc, ◌+◌, ◌≤◌, ◌≡◌, Bool, true, false, List, [], length, eqb, if◌then◌else◌, None, Some, Result, Ok, Err}
use Rattle.std.specs.Prelude as std
use Rattle.std.proofs.Math.Option.{Option, none, some}
use Rattle.wire.specs.Bytes.{Bytes, part, first, is_some}
use Rattle.format.specs.Names.{apply, dropped}
use Rattle.format.specs.Layouts.{Member, descriptor, null_descriptor, null_thunk, short, weak}
use Rattle.format.specs.Reader.{span, read}
use Rattle.format.specs.Refusals.{refusal}
use Rattle.format.specs.Lookup.{symbols, among, offset_at, length_at, rank, entry, read_set}
use Rattle.format.specs.declared.Span.{Span}
use Rattle.format.specs.declared.Read.{Read}
use Rattle.format.specs.declared.Read.TheVariants as R
use Rattle.format.specs.declared.Looked.{Looked}
use Rattle.format.specs.declared.Looked.TheVariants.{NotFound, Nowhere, Ordinal, Name}
use Rattle.format.specs.declared.Reason.TheVariants.{NotASet}
use Rattle.format.specs.declared.Refusal.{Refusal}
use Rattle.lookup.specs.declared.Lead.{Lead}
use Rattle.lookup.specs.declared.Lead.TheVariants as L

-- ---- what a part of the lookup answers where the bytes are a set as far as it looks; else the refusal
abbrev pub if_set : {A : Type 0} → Bool → A → Result A Refusal
if_set true a = Ok a
if_set false a = Err (refusal NotASet 0)

-- ---- the members

-- the bytes of a member, and what they are read as
unfoldable pub bytes_of : Bytes → ℕ → Bytes
bytes_of b i = part b (offset_at b i) (length_at b i)

unfoldable pub member_at : Bytes → ℕ → Option Member
member_at b i = read (bytes_of b i)

-- ---- the order of the members

-- which place a member may take: 3 for those after the fixed three, 4 for what is no member
unfoldable pub rank_of : Option Member → ℕ
rank_of none = 4
rank_of (some m) = rank m

-- the same, of what the reader answers
abbrev pub rank_read : Read → ℕ
rank_read (R.Descriptor m c dll s) = 0
rank_read (R.NullDescriptor m c s) = 1
rank_read (R.NullThunk m s) = 2
rank_read (R.ShortImport m o t k s dll x) = 3
rank_read (R.WeakExternal m target alias) = 3

-- what a member is read as that has to have a rank
unfoldable pub ranked_as : ℕ → Result Read Refusal → Result Read Refusal
ranked_as r (Ok f) = if_set (eqb (rank_read f) r) f
ranked_as r (Err q) = Err (refusal NotASet 0)

abbrev pub next_rank : ℕ → ℕ
next_rank r = if eqb r 3 then 3 else r + 1

-- the n members from the i-th on are in order from a rank on
unfoldable pub ranked_from : Bytes → ℕ → ℕ → ℕ → Bool
ranked_from b r i zero = true
ranked_from b r i (suc n) = let later = ranked_from b (next_rank r) (i + 1) n in if eqb (rank_of (member_at b i)) r then later else false

-- ---- the member that defines a symbol

-- the symbols of a short import, by its machine, its kind and its symbol; the rest of it has no part in them
abbrev pub short_symbols : ℕ → ℕ → Bytes → List Bytes
short_symbols m k s = symbols (short m 0 k 0 s [] [])

unfoldable pub symbols_of : Option Member → List Bytes
symbols_of none = []
symbols_of (some m) = symbols m

unfoldable pub defines_at : Bytes → Bytes → ℕ → Bool
defines_at b s i = among s (symbols_of (member_at b i))

-- the first of the n members from the i-th on
unfoldable pub definer_from : Bytes → Bytes → ℕ → ℕ → Option ℕ
definer_from b s i n = first (defines_at b s) i n

-- ---- the answer

-- a short import's, by its ordinal, its type, its symbol with the place of it and of its export string, of a member at a place
unfoldable pub entry_by : ℕ → ℕ → ℕ → ℕ → Bytes → Span → Looked
entry_by at o t start s x =
    if eqb t 0 then Ordinal o
    else if eqb t 4 then Name (span (at + x.start) x.length)
    else Name (span (at + (start + dropped t s)) (length (apply t s)))

-- a member at a place: a weak external leads where its target does, and what is neither it nor a short import is answered as `other`
unfoldable pub led_by : Looked → (Bytes → Looked) → ℕ → Option Member → Looked
led_by other weakly at none = other
led_by other weakly at (some (descriptor m dll compat)) = other
led_by other weakly at (some (null_descriptor m s)) = other
led_by other weakly at (some (null_thunk m s)) = other
led_by other weakly at (some (short m o k t s dll x)) = entry at o t s dll x
led_by other weakly at (some (weak m target alias)) = weakly target

unfoldable pub led_at : Bytes → Looked → (Bytes → Looked) → Option ℕ → Looked
led_at b other weakly none = other
led_at b other weakly (some j) = led_by other weakly (offset_at b j) (member_at b j)

-- where a target leads among the n members from the i-th on: another weak external, nowhere
unfoldable pub step_from : Bytes → ℕ → ℕ → Bytes → Looked
step_from b i n target = led_at b Nowhere (λ another. Nowhere) (definer_from b target i n)

-- where a symbol leads among them
unfoldable pub answer_from : Bytes → ℕ → ℕ → Bytes → Looked
answer_from b i n s = led_at b NotFound (step_from b i n) (definer_from b s i n)

-- the same of any bytes that are laid out as a set
unfoldable pub looked_from : Bytes → ℕ → ℕ → Bytes → Result Looked Refusal
looked_from b i n s = if_set (is_some (read_set b)) (answer_from b i n s)

-- ---- places within a member

-- a part of so many bytes
pub record Inside (s : Span) (n : ℕ) : Type 0 where
  pub inside : s.start + s.length ≤ n

-- ---- where a member leads, with the bytes of a target

-- where a lead leads, as in `led_by`
abbrev pub led_as : Looked → (Bytes → Looked) → std.Option Lead → Looked
led_as other weakly (Some (L.Answer l)) = l
led_as other weakly (Some (L.Target s)) = weakly s.now
led_as other weakly None = other

-- where the i-th member leads
pub record Leads (b : Bytes) (i : ℕ) (r : std.Option Lead) : Type 0 where
  pub leads : (other : Looked) (weakly : Bytes → Looked) → led_as other weakly r ≡ led_by other weakly (offset_at b i) (member_at b i)
