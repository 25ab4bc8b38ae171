-- `lists::held_in` meets its contract.
use mathlib.Core.Path.{ap, ◌∙◌}
use Rattle.wire.specs.Bytes.{Bytes, holds}
use Rattle.lists.proofs.held_in.Goals as goal

pub returns : goal.returns
returns c =
    c.holds.ensures ∙ ap (λ (s : Bytes). holds c.args.c s) c.part.ensures
