-- `names_run::rules::is_cut` meets its contract.
use Prim.Native.Nat.{◌+◌}
use mathlib.Core.Path.{sym, ◌∙◌}
use lib.Seq.{length-take-le}
use native.Mathlib.Omega.{arith}
use Rattle.names_run.proofs.Verdicts.{refused, told-made, cut-made}
use Rattle.names_run.proofs.rules.is_cut.Goals as goal

pub returns-then-verdict-ne-MADE : goal.returns-then-verdict-ne-MADE
returns-then-verdict-ne-MADE c = refused

pub returns-then-made-at : goal.returns-then-made-at
returns-then-made-at c = refused

pub returns-then-name-lt-TAG_LEN : goal.returns-then-name-lt-TAG_LEN
returns-then-name-lt-TAG_LEN c = refused

pub returns-then-name-at : goal.returns-then-name-at
returns-then-name-at c = refused

pub slice_bounds-same-end : goal.slice_bounds-same-end
slice_bounds-same-end c = sym (length-take-le _ _ (omega arith))

pub slice_bounds-same-end-2 : goal.slice_bounds-same-end-2
slice_bounds-same-end-2 c = sym (length-take-le _ _ (omega arith))

pub returns-then-not-same : goal.returns-then-not-same
returns-then-not-same c = refused

pub returns : goal.returns
returns c = λ e.
    let name = c.args.name.now in
    let made = c.args.made.now in
    told-made _ _ _ c.if-verdict-ne-MADE.false
    (cut-made c.args.at (c.args.at + 3) name made (sym c.same.ensures ∙ c.if-not-same.false) (sym c.same-2.ensures ∙ e))
