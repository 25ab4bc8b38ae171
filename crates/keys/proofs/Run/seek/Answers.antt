use Rattle.std.proofs.Common.{refl, arith}
use Rattle.lists.proofs.Records.{held}
use Rattle.keys.proofs.Slots.{spot-free, spot-old, spot-other, spot-unlike, spot-used, spot-full}
use Rattle.keys.proofs.Run.seek.Goals as goal

pub loop-d-init : goal.loop-d-init
loop-d-init c = refl

pub get-s-requires : goal.get-s-requires
get-s-requires c =
    omega (arith, c.probe-at.ensures.1, c.requires.in_bounds)

pub returns-then-s-eq-FREE : goal.returns-then-s-eq-FREE
returns-then-s-eq-FREE c =
    spot-free _ _ _ c.loop-d.d c.requires.h_value c.probe-at.ensures.0 c.get-s.ensures c.loop-d.invariant c.loop-d-test.true c.if-s-eq-FREE.true

pub loop-d-preserved-then-s-h : goal.loop-d-preserved-then-s-h
loop-d-preserved-then-s-h c =
    spot-other _ _ _ c.loop-d.d c.requires.h_value c.probe-at.ensures.0 c.get-s.ensures c.loop-d.invariant c.loop-d-test.true c.if-s-eq-FREE.false c.if-s-h.true

pub invariant_of-r : goal.invariant_of-r
invariant_of-r c =
    let old = spot-old _ _ _ c.loop-d.d c.requires.h_value c.probe-at.ensures.0 c.get-s.ensures c.loop-d.invariant c.loop-d-test.true c.if-s-eq-FREE.false _ c.requires.within in
    record { held = held _ _ c.args.self.now.checked old }

pub returns-then-same : goal.returns-then-same
returns-then-same c =
    spot-used _ _ _ c.loop-d.d c.requires.h_value c.probe-at.ensures.0 c.get-s.ensures c.loop-d.invariant c.loop-d-test.true c.if-s-eq-FREE.false c.if-s-h.false c.key_is-same.ensures c.if-same.true

pub loop-d-preserved : goal.loop-d-preserved
loop-d-preserved c =
    spot-unlike _ _ _ c.loop-d.d c.requires.h_value c.probe-at.ensures.0 c.get-s.ensures c.loop-d.invariant c.loop-d-test.true c.if-s-eq-FREE.false c.if-s-h.false c.key_is-same.ensures c.if-same.false

pub returns : goal.returns
returns c =
    spot-full _ _ _ c.loop-d.d c.loop-d.invariant c.loop-d-test.false

pub probe-at-requires : goal.probe-at-requires
probe-at-requires c = c.loop-d-test.true
