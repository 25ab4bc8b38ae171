-- `lookup::MemberList::follow` meets its contract.
use Rattle.std.specs.Prelude.{Some}
use mathlib.Core.Path.{sym, ap, ◌∙◌}
use native.Mathlib.Omega.{arith}
use Rattle.format.specs.declared.Looked.TheVariants.{Nowhere}
use Rattle.lookup.proofs.Numbering.{definer-below, led-at, step-none, step-at}
use Rattle.lookup.proofs.MemberList.follow.Goals as goal

pub returns-in_default : goal.returns-in_default
returns-in_default c = step-none _ _ _ _ (sym c.definer.ensures ∙ c.in_default.is)

pub leading-requires : goal.leading-requires
leading-requires c =
    omega (arith, c.args.self.within.2, definer-below _ _ _ _ _ c.args.self.within.1 (sym c.definer.ensures ∙ c.in-Some.is))

pub returns-in-Some-Answer : goal.returns-in-Some-Answer
returns-in-Some-Answer c =
    step-at _ _ _ _ _ (sym c.definer.ensures ∙ c.in-Some.is) (led-at _ _ _ c.leading.ensures (c.in-Some-Answer.is ∙ ap Some c.in-Some-Answer.field-0-is) Nowhere (λ another. Nowhere))

pub returns-in-Some-Target : goal.returns-in-Some-Target
returns-in-Some-Target c =
    step-at _ _ _ _ _ (sym c.definer.ensures ∙ c.in-Some.is) (led-at _ _ _ c.leading.ensures (c.in-Some-Target.is ∙ ap Some c.in-Some-Target.field-0-is) Nowhere (λ another. Nowhere))

pub returns-in-None : goal.returns-in-None
returns-in-None c =
    step-at _ _ _ _ _ (sym c.definer.ensures ∙ c.in-Some.is) (led-at _ _ _ c.leading.ensures c.in-None.is Nowhere (λ another. Nowhere))
