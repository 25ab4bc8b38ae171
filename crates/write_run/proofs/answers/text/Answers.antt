-- `write_run::answers::text` meets its contract.
use mathlib.Core.Path.{◌∙◌}
use native.Mathlib.Omega.{arith}
use Rattle.write_run.proofs.Places.{string-here, string-none, no-part}
use Rattle.write_run.proofs.answers.text.Goals as goal

pub returns-then-at-n : goal.returns-then-at-n
returns-then-at-n c = string-here _ _ _ _ (c.wide-n.ensures.0 ∙ c.word.ensures) (omega arith) c.part.ensures

pub returns : goal.returns
returns c =
    string-none _ _ _ _ (c.wide-n.ensures.0 ∙ c.word.ensures) (omega arith) (c.part-2.ensures ∙ no-part _)
