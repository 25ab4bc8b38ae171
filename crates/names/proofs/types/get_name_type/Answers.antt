-- `names::types::get_name_type` meets its contract.
use mathlib.Core.Path.{sym, ◌∙◌}
use Rattle.names.proofs.NameTypes.{plain-decorated, plain-other, plain-bare}
use Rattle.names.proofs.types.get_name_type.Goals as goal

pub returns-then-decorated : goal.returns-then-decorated
returns-then-decorated c = plain-decorated _ _ _ _ (sym c.decorated.ensures ∙ c.if-decorated.true)

pub returns-then-not-same : goal.returns-then-not-same
returns-then-not-same c =
    plain-other _ _ _ _ (sym c.decorated.ensures ∙ c.if-decorated.false) (sym c.same.ensures ∙ c.if-not-same.true)

pub returns : goal.returns
returns c =
    plain-bare _ _ _ _ (sym c.decorated.ensures ∙ c.if-decorated.false) (sym c.same.ensures ∙ c.if-not-same.false)
    c.bare_type.ensures
