-- What the writer is asked, and the Rust's answers, as the list has them.
use Rattle.std.specs.Prelude.{◌≡◌, ◌++◌, eqb, length, drop, if◌then◌else◌, Ok, Err}
use Rattle.wire.specs.Bytes.{Bytes}
use Rattle.format.specs.Library.{Options}
use Rattle.format.specs.Refusals.{table_slots}
use Rattle.format.specs.Numbers.{number_of}
use Rattle.format.specs.Answers.{Written, asked, written, output_after}
use Rattle.write_run.specs.declared.replay.Asked.{Asked}
use Rattle.write_run.specs.declared.replay.Kept.{Kept}

-- the writer's options
abbrev pub options : Asked → Options
options a = record { machine = a.machine; mingw = a.mingw; compat = a.compat }

-- an answer as the list has it: number 0 and the total, or the refusal's number and place
unfoldable pub kept_of : Written → Kept
kept_of (Ok n) = record { number = 0; value = n }
kept_of (Err r) = record { number = number_of r.reason; value = r.place }

-- what such an answer leaves in an output: the set over its start, or all as it was
unfoldable pub output : Kept → Bytes → Bytes → Bytes
output k set out = if eqb 0 k.number then set ++ drop (length set) out else out

-- the writer does with a list, a table and an output what the Rust did; and so does asking, but where the set was too large for the output
pub record Agrees (o : Options) (list : Bytes) (k : Kept) (set out : Bytes) : Type 0 where
  pub answers : kept_of (written o list table_slots (length out)) ≡ k
  pub total : k.number ≡ 0 → k.value ≡ length set
  pub leaves : output_after o list table_slots out ≡ output k set out
  pub asks : (k.number ≡ 15 → ⊥) → kept_of (asked o list) ≡ k
