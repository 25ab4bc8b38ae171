-- `write_run::answers::after` meets its contract.
use mathlib.Core.Path.{◌∙◌}
use native.Mathlib.Omega.{arith}
use Rattle.write_run.proofs.Places.{after-here, after-none}
use Rattle.write_run.proofs.answers.after.Goals as goal

pub returns-then-end-t : goal.returns-then-end-t
returns-then-end-t c = (after-here _ _ _ (c.wide-n.ensures.0 ∙ c.word.ensures) (omega arith), omega arith)

pub returns : goal.returns
returns c = (after-none _ _ _ (c.wide-n.ensures.0 ∙ c.word.ensures) (omega arith), omega arith)
