-- `names_run::rules::type_giving` meets its contract.
use mathlib.Core.Path.{refl, sym, ◌∙◌}
use Rattle.names_run.proofs.Verdicts.{giving-by}
use Rattle.names_run.proofs.rules.type_giving.Goals as goal

pub returns-then-gives : goal.returns-then-gives
returns-then-gives c = c.number.ensures ∙ sym (giving-by _ _ (sym c.gives.ensures ∙ c.if-gives.true) refl refl)

pub returns-then-gives-2 : goal.returns-then-gives-2
returns-then-gives-2 c =
    c.number-then-gives-2.ensures ∙ sym (giving-by _ _ (sym c.gives.ensures ∙ c.if-gives.false) (sym c.gives-2.ensures ∙ c.if-gives-2.true) refl)

pub returns-then-gives-3 : goal.returns-then-gives-3
returns-then-gives-3 c =
    c.number-then-gives-3.ensures ∙ sym (giving-by _ _ (sym c.gives.ensures ∙ c.if-gives.false) (sym c.gives-2.ensures ∙ c.if-gives-2.false)
    (sym c.gives-3.ensures ∙ c.if-gives-3.true))

pub returns : goal.returns
returns c =
    c.number-2.ensures ∙ sym (giving-by _ _ (sym c.gives.ensures ∙ c.if-gives.false) (sym c.gives-2.ensures ∙ c.if-gives-2.false)
    (sym c.gives-3.ensures ∙ c.if-gives-3.false))
