-- `write_run::answers::asked` meets its contract.
use Rattle.write_run.proofs.Places.{asked-at}
use Rattle.write_run.proofs.answers.asked.Goals as goal

pub returns : goal.returns
returns c = asked-at _ _ c.word-machine.ensures c.flags-flags.ensures
