-- `write_run::replay::holds` meets its contract.
use mathlib.Core.Path.{sym, ◌∙◌}
use lib.ListN.{length}
use lib.Seq.{length-take-le}
use native.Mathlib.Omega.{arith}
use Rattle.write_run.proofs.Agreements.{differs, two-parts}
use Rattle.write_run.proofs.replay.holds.Goals as goal

pub returns-then-out-n : goal.returns-then-out-n
returns-then-out-n c = differs

pub returns-then-before-n : goal.returns-then-before-n
returns-then-before-n c = differs

pub slice_bounds-same-end : goal.slice_bounds-same-end
slice_bounds-same-end c = sym (length-take-le _ _ (omega arith))

pub returns-then-not-same : goal.returns-then-not-same
returns-then-not-same c = differs

pub returns : goal.returns
returns c = λ e.
    two-parts (length c.args.set.now) c.args.set.now c.args.before.now c.args.out.now (sym c.same.ensures ∙ c.if-not-same.false) (sym c.same-2.ensures ∙ e)
