-- `wire::put` meets its contract: all of `src`, or what there is room for.
use native.Mathlib.Omega.{arith}
use mathlib.Core.Path.{◌≡◌, refl}
use lib.ListN.{length}
use lib.Seq.{take_all}
use Rattle.wire.proofs.Writes.{wrote-out, wrote-none, wrote-start, wrote-byte, wrote-more, wrote-as}
use Rattle.wire.proofs.put.Goals as goal

pub returns-then-out-at : goal.returns-then-out-at
returns-then-out-at c = wrote-out _ _ _ c.if-out-at.true

pub loop-i-init : goal.loop-i-init
loop-i-init c = wrote-start _ _

pub loop-i-preserved : goal.loop-i-preserved
loop-i-preserved c = wrote-more c.args.src.now _ _ (omega arith) (omega arith) refl c.loop-i.invariant

pub returns-then-src-out : goal.returns-then-src-out
returns-then-src-out c =
    let e : c.loop-i.i ≡ length c.args.src.now = omega arith in
    wrote-as (take_all _ _ (omega arith)) (rw e at c.loop-i.invariant)

pub loop-x-init : goal.loop-x-init
loop-x-init c = wrote-none _ _

pub loop-x-preserved : goal.loop-x-preserved
loop-x-preserved c = wrote-byte c.args.src.now _ _ (omega arith) refl c.loop-x.invariant c.put_u8-next.ensures

pub returns : goal.returns
returns c = wrote-as (take_all _ _ (omega arith)) c.loop-x.invariant
