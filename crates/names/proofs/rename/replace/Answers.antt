-- `names::rename::replace` meets its contract.
use Rattle.names.proofs.Renamings.{located-fails, located-room, renamed-some, renamed-none}
use Rattle.names.proofs.rename.replace.Goals as goal

pub returns-in_err-p : goal.returns-in_err-p
returns-in_err-p c = rw c.from_residual.ensures (renamed-none (located-fails (rw c.in_err-p.was at c.locate.ensures)))

pub spliced-requires : goal.spliced-requires
spliced-requires c = located-room _ c.args.from.now _ (rw c.in_ok-p.was at c.locate.ensures) c.requires.0 c.requires.1 c.requires.2

pub returns : goal.returns
returns c = renamed-some _ _ _ (rw c.in_ok-p.was at c.locate.ensures) c.requires.0 c.requires.1 c.requires.2 c.spliced.ensures
