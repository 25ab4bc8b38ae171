-- `finds::layouts::find_null_thunk` meets its contract.
use mathlib.Core.Path.{◌∙◌}
use Rattle.wire.proofs.Writes.{found-as}
use Rattle.finds.proofs.Drawn.{drawn-whole}
use Rattle.finds.proofs.Bounds.{bound-thunk}
use Rattle.finds.proofs.layouts.find_null_thunk.Goals as goal

pub returns : goal.returns
returns c =
    found-as (c.part.ensures ∙ drawn-whole c.create_null_thunk-n.ensures (bound-thunk c.args.machine.number c.args.stem.now c.requires)) c.find.ensures
