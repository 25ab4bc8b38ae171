-- `names::rename::spliced` meets its contract.
use mathlib.Core.Path.{sym, ◌∙◌}
use lib.Seq.{length-take-le}
use Rattle.wire.proofs.Writes.{◌⨾◌, wrote-length}
use Rattle.names.proofs.BuiltNames.{fresh-length, built-wrote, wrote-within}
use Rattle.names.proofs.Renamings.{splice-fits, splice-wrote}
use Rattle.names.proofs.rename.spliced.Goals as goal

pub slice_bounds-lay-end : goal.slice_bounds-lay-end
slice_bounds-lay-end c =
    sym (length-take-le _ _ c.requires.before)

pub lay-b-requires : goal.lay-b-requires
lay-b-requires c =
    wrote-length c.lay-a.ensures ∙ fresh-length c.fresh-m.ensures.1

pub lay-n-requires : goal.lay-n-requires
lay-n-requires c =
    wrote-length (c.lay-a.ensures ⨾ c.lay-b.ensures) ∙ fresh-length c.fresh-m.ensures.1

pub invariant_of-m : goal.invariant_of-m
invariant_of-m c =
    record { within = wrote-within (c.lay-a.ensures ⨾ c.lay-b.ensures ⨾ c.lay-n.ensures) }

pub returns : goal.returns
returns c =
    built-wrote (fresh-length c.fresh-m.ensures.1) (splice-fits c.requires) (splice-wrote _ _ c.args.p c.lay-a.ensures c.lay-b.ensures c.lay-n.ensures)
