-- `finds::layouts::find_import_descriptor` meets its contract.
use mathlib.Core.Path.{◌∙◌}
use Rattle.wire.proofs.Writes.{found-as}
use Rattle.finds.proofs.Drawn.{drawn-whole}
use Rattle.finds.proofs.Bounds.{bound-descriptor}
use Rattle.finds.proofs.layouts.find_import_descriptor.Goals as goal

pub returns : goal.returns
returns c =
    found-as (c.part.ensures ∙ drawn-whole c.create_import_descriptor-n.ensures (bound-descriptor c.args.machine.number c.args.dll.now c.args.compat c.requires.dll_len_bound)) c.find.ensures
