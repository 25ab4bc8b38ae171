use borrow.Author.Rules.{rules}
use mathlib.Core.Path.{refl, sym, ◌∙◌}
use native.Mathlib.Omega.{arith}
use Rattle.wire.proofs.Parts.{same-part, same-part-differ, same-part-last}
use Rattle.wire.proofs.same_by.Goals as goal

pub loop-i-init : goal.loop-i-init
loop-i-init c = (search rules, refl)

pub returns-then-not-same_at : goal.returns-then-not-same_at
returns-then-not-same_at c = sym (same-part-differ _ _ _ _ (sym c.same_at.ensures ∙ c.if-not-same_at.true))

pub loop-i-preserved : goal.loop-i-preserved
loop-i-preserved c =
    (search rules, same-part c.args.a.now c.args.b.now _ _ c.loop-i.invariant.1 (sym c.same_at.ensures ∙ c.if-not-same_at.false))

pub returns : goal.returns
returns c =
    c.same_at-2.ensures ∙ sym (same-part-last c.args.a.now c.args.b.now c.loop-i.i _ _ c.loop-i.invariant.1 c.loop-i-test.false (omega arith) (omega arith))
