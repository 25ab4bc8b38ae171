-- `lookup::sets::laid_out` meets its contract.
use mathlib.Core.Path.{ap₂, ◌∙◌}
use native.Mathlib.Omega.{arith}
use Rattle.format.specs.Lookup.{back_to_back}
use Rattle.lookup.proofs.Laying.{no-header, no-count, no-first, no-directory, laid-by}
use Rattle.lookup.proofs.sets.laid_out.Goals as goal

pub returns-then-set-lt-SET_HEADER_SIZE : goal.returns-then-set-lt-SET_HEADER_SIZE
returns-then-set-lt-SET_HEADER_SIZE c = no-header _ c.if-set-lt-SET_HEADER_SIZE.true

pub returns-then-count-firsts : goal.returns-then-count-firsts
returns-then-count-firsts c =
    no-count _ c.if-set-lt-SET_HEADER_SIZE.false
    (λ e. c.if-count-firsts.true (omega (arith, e, c.field-count.ensures.0, c.field-firsts.ensures.0, c.field-natives.ensures.0)))

pub returns-then-at-count : goal.returns-then-at-count
returns-then-at-count c =
    no-first _ c.if-set-lt-SET_HEADER_SIZE.false (omega (arith, c.if-count-firsts.false, c.field-count.ensures.0, c.field-firsts.ensures.0, c.field-natives.ensures.0))
    (λ e. c.if-at-count.true (omega (arith, e, c.field-count.ensures.0, c.field-at.ensures.0)))

pub returns-then-set-at : goal.returns-then-set-at
returns-then-set-at c =
    no-directory _ c.if-set-lt-SET_HEADER_SIZE.false (omega (arith, c.if-count-firsts.false, c.field-count.ensures.0, c.field-firsts.ensures.0, c.field-natives.ensures.0))
    (omega (arith, c.if-at-count.false, c.field-count.ensures.0, c.field-at.ensures.0))
    (omega (arith, c.if-set-at.true, c.field-at.ensures.0))

pub returns : goal.returns
returns c =
    laid-by _ c.if-set-lt-SET_HEADER_SIZE.false (omega (arith, c.if-count-firsts.false, c.field-count.ensures.0, c.field-firsts.ensures.0, c.field-natives.ensures.0))
    (omega (arith, c.if-at-count.false, c.field-count.ensures.0, c.field-at.ensures.0))
    (c.back_to_back.ensures ∙ ap₂ (back_to_back c.args.set.now 0) c.field-at.ensures.0 c.field-count.ensures.0)
