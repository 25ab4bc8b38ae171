-- `plans::plan` meets its contract.
use mathlib.Core.Path.{sym, ap, ◌∙◌}
use Rattle.format.proofs.Rows.{passed-on}
use Rattle.format.specs.Exports.{export_at}
use Rattle.format.specs.Plan.{plan_choice}
use Rattle.plans.specs.Shape.{choice_of, short_or_refused, planned}
use Rattle.plans.proofs.Choices.{public-empty, public-some}
use Rattle.plans.proofs.plan.Goals as goal

pub returns-then-public-eq0 : goal.returns-then-public-eq0
unfolding planned
returns-then-public-eq0 c = public-empty _ _ _ _ c.if-public-eq0.true

pub returns-in_default : goal.returns-in_default
unfolding planned choice_of plan_choice
returns-in_default c =
    let e = export_at c.args.r.list.now c.args.r.index in
    ap (plan_choice c.args.machine e c.args.public.now) (ap (choice_of e c.args.public.now) (sym c.in_default.is) ∙ c.choose.ensures)
    ∙ public-some _ _ _ _ c.if-public-eq0.false

pub returns-in_err-short : goal.returns-in_err-short
unfolding planned short_or_refused choice_of
returns-in_err-short c =
    let e = export_at c.args.r.list.now c.args.r.index in
    rw (passed-on _ c.from_residual.ensures.1)
    (ap (short_or_refused e c.args.public.now) (sym c.in_err-short.was) ∙ c.short_typed.ensures
    ∙ ap (plan_choice c.args.machine e c.args.public.now) (ap (choice_of e c.args.public.now) (sym c.in-Some.is) ∙ c.choose.ensures)
    ∙ public-some _ _ _ _ c.if-public-eq0.false)

pub returns : goal.returns
unfolding planned short_or_refused choice_of
returns c =
    let e = export_at c.args.r.list.now c.args.r.index in
    ap (short_or_refused e c.args.public.now) (sym c.in_ok-short.was) ∙ c.short_typed.ensures
    ∙ ap (plan_choice c.args.machine e c.args.public.now) (ap (choice_of e c.args.public.now) (sym c.in-Some.is) ∙ c.choose.ensures)
    ∙ public-some _ _ _ _ c.if-public-eq0.false
