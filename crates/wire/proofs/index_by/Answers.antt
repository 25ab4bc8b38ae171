use Prim.Native.Nat.{◌-◌}
use native.Mathlib.Omega.{arith}
use lib.ListN.{length}
use mathlib.Core.Path.{refl}
use Rattle.wire.specs.Bytes.{holds}
use Rattle.wire.proofs.Parts.{holds-take-le, marks-first, marks-past, marks-end}
use Rattle.wire.proofs.index_by.Goals as goal

pub loop-at-init : goal.loop-at-init
unfolding holds
loop-at-init g c = (omega arith, refl)

pub returns-then-bits-ne0 : goal.returns-then-bits-ne0
returns-then-bits-ne0 g c = marks-first c.args.c c.args.s.now c.loop-at.at g.row.N (omega arith) (omega arith) c.loop-at.invariant.1 c.marks_at-bits.ensures c.if-bits-ne0.true

pub loop-at-preserved : goal.loop-at-preserved
loop-at-preserved g c = (omega arith, marks-past c.args.c c.args.s.now c.loop-at.at g.row.N _ (omega arith) c.loop-at.invariant.1 c.marks_at-bits.ensures c.if-bits-ne0.false)

-- the last part
pub returns-then-bits-eq0 : goal.returns-then-bits-eq0
returns-then-bits-eq0 g c =
    let s = c.args.s.now in
    marks-end c.args.c s (length s - g.row.N) g.row.N (omega arith) (holds-take-le _ s c.loop-at.at _ c.loop-at-test.false c.loop-at.invariant.1) c.marks_at-bits-2.ensures c.if-bits-eq0.true

pub returns : goal.returns
returns g c =
    let s = c.args.s.now in
    marks-first c.args.c s (length s - g.row.N) g.row.N (omega arith) (omega arith) (holds-take-le _ s c.loop-at.at _ c.loop-at-test.false c.loop-at.invariant.1) c.marks_at-bits-2.ensures c.if-bits-eq0.false
