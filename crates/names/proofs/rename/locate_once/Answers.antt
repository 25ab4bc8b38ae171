-- `names::rename::locate_once` meets its contract.
use lib.ListN.{length-drop}
use native.Mathlib.Omega.{arith}
use Rattle.laws.proofs.Names.{find-within}
use Rattle.search.proofs.Searches.{find-rest, find-rest-none}
use Rattle.names.proofs.Renamings.{located-at, located-nowhere}
use Rattle.names.proofs.rename.locate_once.Goals as goal

pub returns-in_err-at : goal.returns-in_err-at
returns-in_err-at c =
    rw c.from_residual.ensures
    (located-nowhere _ c.args.from.now _ c.args.skip (find-rest-none c.args.from.now c.args.s.now c.args.skip c.find.ensures c.in_err-at.was))

pub overflow_add-result : goal.overflow_add-result
overflow_add-result c =
    let e = find-rest c.args.from.now c.args.s.now c.args.skip c.find.ensures c.in_ok-at.was in
    omega (arith, find-within _ _ _ e, length-drop c.args.skip c.args.from.now)

pub returns : goal.returns
returns c =
    located-at _ _ _ _ _ c.requires.1 (find-rest c.args.from.now c.args.s.now c.args.skip c.find.ensures c.in_ok-at.was)
