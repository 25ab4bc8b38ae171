-- `write_run::answers::agrees` meets its contract.
use Rattle.write_run.proofs.Places.{agrees-at}
use Rattle.write_run.proofs.answers.agrees.Goals as goal

pub returns : goal.returns
returns c =
    λ e. agrees-at _ _ c.asked-asked.ensures
    c.kept-kept.ensures c.text-list.ensures c.answer.ensures.0 c.text-set.ensures
    c.untouched-before.ensures.0 (c.agrees.ensures e)
