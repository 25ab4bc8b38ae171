-- `names::types::get_own_type` meets its contract.
use mathlib.Core.Path.{sym, ◌∙◌}
use Rattle.wire.proofs.Bytes.{same-refl}
use Rattle.names.proofs.NameTypes.{plain-decorated, plain-bare}
use Rattle.names.proofs.types.get_own_type.Goals as goal

pub returns-then-decorated : goal.returns-then-decorated
returns-then-decorated c = plain-decorated _ _ _ _ (sym c.decorated.ensures ∙ c.if-decorated.true)

pub returns : goal.returns
returns c =
    plain-bare _ _ _ _ (sym c.decorated.ensures ∙ c.if-decorated.false) (same-refl _) c.bare_type.ensures
