-- `walks::walk::draw_pass` meets its contract.
use Prim.Native.Nat.{◌-◌}
use Rattle.format.specs.Exports.{exports_from}
use Rattle.walks.specs.Pen.{entry_of, at_of, Drew}
use Rattle.walks.specs.Walk.{pass_members}
use Rattle.walks.proofs.walk.draw_pass.Given as goal

abbrev pub invariant-loop-k : goal.invariant-loop-k
invariant-loop-k l =
    Drew l.initial.out (entry_of l.pen) (at_of l.pen) (pass_members l.later l.machine l.mingw l.dll (exports_from l.b l.from (l.to - l.from)) l.b l.from (l.k - l.from)) l.out (entry_of l.next) (at_of l.next)
