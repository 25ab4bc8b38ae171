-- `write_run::answers::kept` meets its contract.
use Rattle.write_run.proofs.Places.{kept-at}
use Rattle.write_run.proofs.answers.kept.Goals as goal

pub returns : goal.returns
returns c = kept-at _ _ c.answer-answer.ensures.0 c.word.ensures c.word-value.ensures
