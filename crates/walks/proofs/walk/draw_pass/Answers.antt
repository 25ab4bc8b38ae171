use native.Mathlib.Omega.{arith}
use Rattle.lists.proofs.Records.{held}
use Rattle.walks.proofs.Pens.{drew-as, drew-none, drew-length}
use Rattle.walks.proofs.Records.{in-none, in-end, pass-room, pass-drew}
use Rattle.walks.proofs.walk.draw_pass.Goals as goal

pub loop-k-init : goal.loop-k-init
loop-k-init c =
    drew-as (in-none _ _ _) (drew-none _ _ _)

pub invariant_of-r : goal.invariant_of-r
invariant_of-r c = record { held = held _ _ c.requires.b_value (omega (arith, c.loop-k-test.true, c.requires.from_le_to.1)) }

pub draw_record-next-requires : goal.draw_record-next-requires
draw_record-next-requires c = record { room = pass-room _ _ c.requires.room (omega arith) c.loop-k-test.true c.loop-k.invariant; b_value = c.requires.b_value; from_le_k = (omega arith, c.loop-k-test.true, c.requires.from_le_to.1); dll_len_bound = c.requires.dll_len_bound; resolved = c.requires.resolved }

pub loop-k-preserved : goal.loop-k-preserved
loop-k-preserved c =
    pass-drew _ _ c.requires.room (omega arith) c.loop-k-test.true c.loop-k.invariant c.draw_record-next.ensures

pub shape_of-out : goal.shape_of-out
shape_of-out c = drew-length c.loop-k.invariant

pub returns : goal.returns
returns c = drew-as (in-end _ _ _ _ _ (omega (arith, c.requires.from_le_to.0)) c.loop-k-test.false) c.loop-k.invariant
