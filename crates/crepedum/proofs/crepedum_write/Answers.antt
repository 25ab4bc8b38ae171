-- `crepedum::crepedum_write` meets its contract.
use Rattle.crepedum.proofs.crepedum_write.Goals as goal

pub returns : goal.returns
returns c = record { answer = _; word = c.written_word.ensures; writes = c.write.ensures }
