-- `finds::layouts::find_null_import_descriptor` meets its contract.
use mathlib.Core.Path.{◌∙◌}
use Rattle.wire.proofs.Writes.{found-as}
use Rattle.finds.proofs.Drawn.{drawn-whole}
use Rattle.finds.proofs.Bounds.{bound-null}
use Rattle.finds.proofs.layouts.find_null_import_descriptor.Goals as goal

pub returns : goal.returns
returns c =
    found-as (c.part.ensures ∙ drawn-whole c.create_null_import_descriptor-n.ensures (bound-null c.args.machine.number c.args.compat c.args.stem.now c.requires)) c.find.ensures
