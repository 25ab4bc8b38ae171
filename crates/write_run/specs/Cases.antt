-- Where the list has its cases, and what stands in each. Past the end of the bytes a word is 0 and a string is empty.
use Rattle.std.specs.Prelude.{ℕ, zero, suc, ◌+◌, ◌%◌, ◌<◌, [], eqb, leb, length, replicate, if◌then◌else◌}
use Rattle.wire.specs.Bytes.{Bytes, u32_at, part}
use Rattle.write_run.specs.declared.replay.Asked.{Asked}
use Rattle.write_run.specs.declared.replay.Kept.{Kept}
use Rattle.write_run.specs.Kept.{options, Agrees}

-- the word at a place
unfoldable pub word_at : Bytes → ℕ → ℕ
word_at t at = if leb (at + 4) (length t) then u32_at t at else 0

-- a string stands behind a word with its length: where it ends, and its bytes
abbrev pub end_at : Bytes → ℕ → ℕ
end_at t at = at + 4 + word_at t at

unfoldable pub string_at : Bytes → ℕ → Bytes
string_at t at = if leb (end_at t at) (length t) then part t (at + 4) (word_at t at) else []

-- the place after a string, or one past the end where it is not all there
unfoldable pub after_at : Bytes → ℕ → ℕ
after_at t at = if leb (end_at t at) (length t) then end_at t at else length t + 1

-- ---- the case at a place

-- machine and flags, then the list
abbrev pub asked_at : Bytes → ℕ → Asked
asked_at t at = record { machine = word_at t at; mingw = eqb (word_at t (at + 4) % 2) 1; compat = leb 2 (word_at t (at + 4)) }

abbrev pub list_at : Bytes → ℕ → Bytes
list_at t at = string_at t (at + 8)

-- after the list the answer
abbrev pub answer_at : Bytes → ℕ → ℕ
answer_at t at = after_at t (at + 8)

abbrev pub kept_at : Bytes → ℕ → Kept
kept_at t at = record { number = word_at t (answer_at t at + 4); value = word_at t (answer_at t at) }

-- after the number 0 the set
abbrev pub set_at : Bytes → ℕ → Bytes
set_at t at = string_at t (answer_at t at + 8)

unfoldable pub next_at : Bytes → ℕ → ℕ
next_at t at = if eqb (word_at t (answer_at t at + 4)) 0 then after_at t (answer_at t at + 8) else answer_at t at + 8

-- an output that nothing was written to
unfoldable pub guards : Bytes
guards = replicate 65536 165

-- the writer does with the case what the Rust did
abbrev pub AgreesAt : Bytes → ℕ → Type 0
AgreesAt t at = Agrees (options (asked_at t at)) (list_at t at) (kept_at t at) (set_at t at) guards

-- ---- the place of each case: they stand one after the other behind their count

unfoldable pub case_at : Bytes → ℕ → ℕ
case_at t zero = 4
case_at t (suc k) = next_at t (case_at t k)

-- of so many cases the writer does with each what the Rust did
abbrev pub AllAgree : Bytes → ℕ → Type 0
AllAgree t n = (k : ℕ) → k < n → AgreesAt t (case_at t k)
