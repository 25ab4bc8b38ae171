-- `crepedum::crepedum_total` meets its contract.
use mathlib.Core.Path.{ap, ◌∙◌}
use Rattle.crepedum.specs.Words.{written_word}
use Rattle.crepedum.proofs.crepedum_total.Goals as goal

pub returns : goal.returns
returns c = c.written_word.ensures ∙ ap written_word c.total.ensures
