-- `names::dll::barred` meets its contract.
use mathlib.Core.Path.{refl, sym, ◌∙◌}
use native.Mathlib.Omega.{arith}
use Rattle.names.proofs.DllNames.{barred-by, barred-long}
use Rattle.names.proofs.dll.barred.Goals as goal

pub returns-then-dll-gt-DOTS : goal.returns-then-dll-gt-DOTS
returns-then-dll-gt-DOTS c = c.separated.ensures ∙ sym (barred-long _ (omega arith))

pub returns-then-same : goal.returns-then-same
returns-then-same c = sym (barred-by _ (sym c.same.ensures ∙ c.if-same.true) refl)

pub returns-then-same-2 : goal.returns-then-same-2
returns-then-same-2 c =
    sym (barred-by _ (sym c.same.ensures ∙ c.if-same.false) (sym c.same-2.ensures ∙ c.if-same-2.true))

pub returns : goal.returns
returns c =
    c.separated-2.ensures ∙ sym (barred-by _ (sym c.same.ensures ∙ c.if-same.false) (sym c.same-2.ensures ∙ c.if-same-2.false))
