-- `crepedum::crepedum_check` meets its contract.
use mathlib.Core.Path.{ap, ◌∙◌}
use Rattle.crepedum.specs.Words.{check_word}
use Rattle.crepedum.proofs.crepedum_check.Goals as goal

pub returns : goal.returns
returns c = λ compat. c.check_word.ensures ∙ ap check_word (c.check_exports.ensures compat)
