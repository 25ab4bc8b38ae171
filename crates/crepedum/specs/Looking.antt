-- What a program in another language is answered for a symbol, and what its fields then hold.
use Rattle.std.specs.Prelude.{ℕ, List, ◌++◌, length, drop, ltb, leb, if◌then◌else◌, Result, Ok, Err}
use Rattle.wire.specs.Bytes.{Bytes}
use Rattle.crepedum.specs.Words.{reason_word}
use Rattle.format.specs.declared.Reason.TheVariants.{NoRoom, NotASet}
use Rattle.format.specs.Answers.{where_number, looked_values}
use Rattle.format.specs.Refusals.{refusal}
use Rattle.format.specs.Lookup.{lookup}
use Rattle.format.specs.declared.Looked.{Looked}
use Rattle.format.specs.declared.Looked.TheVariants.{NotFound, Nowhere, Ordinal, Name}
use Rattle.format.specs.declared.Refusal.{Refusal}
use Rattle.crepedum.specs.Reading.{Short}

-- how many fields an answer has at most
abbrev pub looked_count : ℕ
looked_count = 2

-- a set of 2^32 bytes or more has places that no field holds: it is refused as what is not a member set
unfoldable pub looked : Bytes → ℕ → Bytes → Result Looked Refusal
looked set list s = if leb 4294967296 (length set) then Err (refusal NotASet 0) else lookup set list s

-- the answer's number, or the refusal's number times 2^32, of which the place is 0
unfoldable pub looked_word : Result Looked Refusal → ℕ
looked_word (Ok l) = where_number l
looked_word (Err r) = reason_word r.reason

-- the values, and what stood after them; a refusal has none
unfoldable pub looked_filled : Result Looked Refusal → List ℕ → List ℕ
looked_filled (Ok w) l = looked_values w ++ drop (length (looked_values w)) l
looked_filled (Err r) l = l

-- too few fields are refused first, by 15
unfoldable pub looked_answer : Result Looked Refusal → List ℕ → ℕ
looked_answer r l = if ltb (length l) looked_count then reason_word NoRoom else looked_word r

unfoldable pub looked_after : Result Looked Refusal → List ℕ → List ℕ
looked_after r l = if ltb (length l) looked_count then l else looked_filled r l

-- a name's start and length are fields of 32 bits
abbrev pub ShortLooked : Looked → Type 0
ShortLooked NotFound = Unit {0}
ShortLooked Nowhere = Unit {0}
ShortLooked (Ordinal o) = Unit {0}
ShortLooked (Name s) = Short s
