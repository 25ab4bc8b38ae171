-- The answers as numbers that cross to other languages.
use Rattle.std.specs.Prelude.{ℕ, ◌+◌, ◌*◌, ◌≡◌, List, Ok, Err}
use Rattle.wire.specs.Bytes.{Bytes}
use Rattle.format.specs.Library.{Options}
use Rattle.format.specs.Numbers.{number_of}
use Rattle.format.specs.Refusals.{Checked}
use Rattle.format.specs.Answers.{Written, Writes}
use Rattle.format.specs.declared.Reason.{Reason}
use Rattle.format.specs.declared.Refusal.{Refusal}

-- a refusal's number times 2^32, without its place and with it
abbrev pub reason_word : Reason → ℕ
reason_word r = number_of r * 4294967296

abbrev pub refusal_word : Refusal → ℕ
refusal_word r = reason_word r.reason + r.place

-- 0, or the refusal's
abbrev pub check_word : Checked → ℕ
check_word (Ok t) = 0
check_word (Err r) = refusal_word r

-- the total, or the refusal's
abbrev pub written_word : Written → ℕ
written_word (Ok n) = n
written_word (Err r) = refusal_word r

-- what writing promises, with its answer as one number
pub record WritesWord {A : Type 0} (o : Options) (b : Bytes) (slots : List A) (out : Bytes) (w : ℕ) (slots' : List A) (out' : Bytes) : Type 0 where
  pub answer : Written
  pub word : w ≡ written_word answer
  pub writes : Writes o b slots out answer slots' out'
