-- What a program in another language is answered for a member, and what its fields then hold.
use Rattle.std.specs.Prelude.{ℕ, ◌<◌, List, ◌++◌, length, drop, ltb, if◌then◌else◌, Result, Ok, Err}
use Rattle.crepedum.specs.Words.{reason_word}
use Rattle.format.specs.declared.Reason.TheVariants.{NoRoom}
use Rattle.format.specs.Answers.{layout_number, read_values}
use Rattle.format.specs.declared.Refusal.{Refusal}
use Rattle.format.specs.declared.Span.{Span}
use Rattle.format.specs.declared.Read.{Read}
use Rattle.format.specs.declared.Read.TheVariants.{Descriptor, NullDescriptor, NullThunk, ShortImport, WeakExternal}

-- how many fields an answer has
abbrev pub field_count : ℕ
field_count = 11

-- the layout's number, or the refusal's number times 2^32, of which the place is 0
unfoldable pub read_word : Result Read Refusal → ℕ
read_word (Ok f) = layout_number f
read_word (Err r) = reason_word r.reason

-- the values, and what stood after them; a refusal has none
unfoldable pub filled : Result Read Refusal → List ℕ → List ℕ
filled (Ok f) l = read_values f ++ drop (length (read_values f)) l
filled (Err r) l = l

-- too few fields are refused first, by 15
unfoldable pub read_answer : Result Read Refusal → List ℕ → ℕ
read_answer r l = if ltb (length l) field_count then reason_word NoRoom else read_word r

unfoldable pub fields_after : Result Read Refusal → List ℕ → List ℕ
fields_after r l = if ltb (length l) field_count then l else filled r l

-- ---- every value is a field of 32 bits

pub record Short (s : Span) : Type 0 where
  pub start : s.start < 4294967296
  pub length : s.length < 4294967296

abbrev pub Shorts : Read → Type 0
Shorts (Descriptor m c dll s) = Short dll × Short s
Shorts (NullDescriptor m c s) = Short s
Shorts (NullThunk m s) = Short s
Shorts (ShortImport m o t k s dll x) = Short s × Short dll × Short x
Shorts (WeakExternal m target alias) = Short target × Short alias
