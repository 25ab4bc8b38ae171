use Rattle.std.proofs.Common.{sym, refl, ◌∙◌, arith}
use Rattle.keys.proofs.Hashing.{hash-step, hash-end}
use Rattle.keys.proofs.hash.hash.Goals as goal

pub loop-c-init : goal.loop-c-init
loop-c-init c = refl

pub loop-c-preserved : goal.loop-c-preserved
loop-c-preserved c = hash-step _ _ c.loop-c.c-index c.loop-c-test.true c.step-h.ensures ∙ c.loop-c.invariant

pub returns : goal.returns
returns c = sym (hash-end _ _ c.loop-c.c-index (omega (arith, c.loop-c-test.false))) ∙ c.loop-c.invariant
