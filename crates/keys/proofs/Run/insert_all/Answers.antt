use Rattle.std.proofs.Common.{◌<◌, refl, ◌∙◌, arith}
use Rattle.format.specs.Exports.{both_counts}
use Rattle.keys.proofs.Slots.{clear-by, all-by}
use Rattle.keys.proofs.Run.insert_all.Goals as goal

pub clear-requires : goal.clear-requires
clear-requires c =
    c.requires

pub loop-k-init : goal.loop-k-init
loop-k-init c =
    (refl, clear-by _ _ _ c.clear.ensures)

pub insert_record-requires : goal.insert_record-requires
insert_record-requires c =
    let inside : c.loop-k.k < both_counts c.args.self.now.list.now = omega (arith, c.loop-k-test.true, c.args.self.now.within.1) in
    record { in_bounds = omega (arith, c.loop-k.invariant.0, c.clear.auto.slots, c.requires); entered = c.loop-k.invariant.1; from_le_k = (omega arith, inside) }

pub loop-k-preserved : goal.loop-k-preserved
loop-k-preserved c =
    (c.insert_record.auto.slots ∙ c.loop-k.invariant.0, c.insert_record.ensures)

pub shape_of-slots : goal.shape_of-slots
shape_of-slots c =
    c.loop-k.invariant.0 ∙ c.clear.auto.slots

pub returns : goal.returns
returns c =
    all-by _ _ c.loop-k.k _ _ (omega (arith, c.args.self.now.within.0)) (omega (arith, c.loop-k-test.false)) c.loop-k.invariant.1
