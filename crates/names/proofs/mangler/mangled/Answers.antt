-- `names::mangler::mangled` meets its contract.
use mathlib.Core.Path.{◌∙◌}
use native.Mathlib.Omega.{arith}
use Rattle.wire.proofs.Writes.{◌⨾◌, wrote-length}
use Rattle.names.proofs.BuiltNames.{fresh-length, built-wrote, wrote-within}
use Rattle.names.proofs.mangler.mangled.Goals as goal

pub lay-n-requires : goal.lay-n-requires
lay-n-requires c =
    wrote-length c.lay-at.ensures ∙ fresh-length c.fresh-m.ensures.1

pub invariant_of-m : goal.invariant_of-m
invariant_of-m c =
    record { within = wrote-within (c.lay-at.ensures ⨾ c.lay-n.ensures) }

pub returns : goal.returns
returns c =
    built-wrote (fresh-length c.fresh-m.ensures.1) (omega arith) (c.lay-at.ensures ⨾ c.lay-n.ensures)
