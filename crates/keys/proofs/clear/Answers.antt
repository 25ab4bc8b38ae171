use Rattle.std.proofs.Common.{◌<◌, length, refl, ◌∙◌, arith}
use Rattle.keys.proofs.Slots.{free-next}
use Rattle.keys.proofs.clear.Goals as goal

pub loop-i-init : goal.loop-i-init
loop-i-init c = (refl, λ r g. absurd (omega arith))

pub put-requires : goal.put-requires
put-requires c = omega (arith, c.loop-i-test.true, c.loop-i.invariant.0, c.requires)

pub loop-i-preserved : goal.loop-i-preserved
loop-i-preserved c =
    let inside : c.loop-i.i < length c.loop-i.slots = omega (arith, c.loop-i-test.true, c.loop-i.invariant.0, c.requires) in
    (c.put.auto.slots ∙ c.loop-i.invariant.0, free-next c.loop-i.slots _ c.loop-i.i _ inside c.put.ensures refl c.loop-i.invariant.1)

pub returns : goal.returns
returns c = λ s g. c.loop-i.invariant.1 s (omega (arith, c.loop-i-test.false))

pub shape_of-slots : goal.shape_of-slots
shape_of-slots c = c.loop-i.invariant.0
