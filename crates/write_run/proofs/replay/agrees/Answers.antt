-- `write_run::replay::agrees` meets its contract.
use Rattle.write_run.proofs.Agreements.{differs, agrees-written, agrees-refused}
use borrow.Author.Rules.{rules}
use Rattle.write_run.proofs.replay.agrees.Goals as goal

pub returns-then-not-is_asked : goal.returns-then-not-is_asked
returns-then-not-is_asked c = differs

pub returns-in-Ok : goal.returns-in-Ok
returns-in-Ok c = λ e.
    agrees-written c.write.ensures (search rules) c.in-Ok.is _ _ _ c.requires (c.is_asked.ensures (c.if-not-is_asked.false)) (c.is_written.ensures e)

pub returns-in-Err : goal.returns-in-Err
returns-in-Err c = λ e.
    agrees-refused c.write.ensures (search rules) c.in-Err.is _ _ _ c.requires (c.is_asked.ensures (c.if-not-is_asked.false)) (c.is_refused.ensures e)
