-- `write_run::answers::word` meets its contract.
use native.Mathlib.Omega.{arith}
use Rattle.write_run.proofs.Places.{word-here, word-none}
use Rattle.write_run.proofs.answers.word.Goals as goal

pub returns-then-t-lt-WORD : goal.returns-then-t-lt-WORD
returns-then-t-lt-WORD c = word-none _ _ (omega arith)

pub returns-then-t-at : goal.returns-then-t-at
returns-then-t-at c = word-none _ _ (omega arith)

pub returns : goal.returns
returns c = word-here _ _ _ (omega arith) c.u32_at.ensures
