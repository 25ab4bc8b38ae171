use Rattle.std.proofs.Common.{◌<◌, ◌≤◌, length, refl, ◌∙◌, arith, length-set}
use Rattle.lists.proofs.Records.{held, absent-is, bytes-are}
use Rattle.keys.proofs.Targets.{target-of, stored-skip, stored-next, stored-all, earlier-stays}
use Rattle.keys.proofs.Run.find_all.Goals as goal

pub loop-k-init : goal.loop-k-init
loop-k-init c =
    (refl, λ i g h e. absurd (omega arith), λ j g. refl)

pub invariant_of-r : goal.invariant_of-r
invariant_of-r c = record { held = held _ _ c.args.self.now.checked (omega (arith, c.loop-k-test.true, c.args.self.now.within.1)) }

pub loop-k-preserved-in_default : goal.loop-k-preserved-in_default
loop-k-preserved-in_default c =
    (c.loop-k.invariant.0, stored-skip _ _ _ _ _ c.loop-k.k c.loop-k.targets (absent-is _ _ c.import_name.ensures c.in_default.is) c.loop-k.invariant.1, c.loop-k.invariant.2)

pub find-requires : goal.find-requires
find-requires c = record { in_bounds = c.requires.in_bounds; entered = c.requires.entered }

pub bounds-targets-k : goal.bounds-targets-k
bounds-targets-k c =
    omega (arith, c.loop-k-test.true, c.loop-k.invariant.0, c.args.self.now.within.1, c.requires.list_in_bounds)

pub loop-k-preserved : goal.loop-k-preserved
loop-k-preserved c =
    let room : c.loop-k.k < length c.loop-k.targets = omega (arith, c.loop-k-test.true, c.loop-k.invariant.0, c.args.self.now.within.1, c.requires.list_in_bounds) in (
      length-set c.loop-k.targets _ _ ∙ c.loop-k.invariant.0,
      stored-next _ _ _ _ _ c.loop-k.k c.loop-k.targets room (target-of _ _ _ _ _ c.loop-k.k c.find.ensures (bytes-are _ _ c.import_name.ensures c.in-Some.is)) c.loop-k.invariant.1,
      λ j g. earlier-stays c.loop-k.k j _ c.loop-k.targets (omega arith) ∙ c.loop-k.invariant.2 j g,
    )

pub returns : goal.returns
returns c =
    let room : c.args.self.now.to ≤ length c.loop-k.targets = omega (arith, c.loop-k.invariant.0, c.args.self.now.within.1, c.requires.list_in_bounds) in
    (stored-all _ _ _ _ _ c.loop-k.k c.loop-k.targets c.args.self.now.within.0 c.loop-k-test.false room c.loop-k.invariant.1, c.loop-k.invariant.2)

pub shape_of-targets : goal.shape_of-targets
shape_of-targets c = c.loop-k.invariant.0
