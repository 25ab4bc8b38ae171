use borrow.Author.Rules.{rules}
use mathlib.Core.Path.{◌≡◌, refl}
use native.Mathlib.Omega.{arith}
use Rattle.wire.specs.Bytes.{part, same}
use Rattle.wire.proofs.Parts.{same-part-more}
use Rattle.wire.proofs.same_at.Goals as goal

pub loop-k-init : goal.loop-k-init
unfolding part same
loop-k-init c = (search rules, refl)

pub loop-k-preserved : goal.loop-k-preserved
loop-k-preserved c =
    (search rules, same-part-more _ _ _ _ (omega arith) (omega arith) c.loop-k.invariant.1)

pub returns : goal.returns
returns c =
    let e : c.loop-k.k ≡ c.args.n = omega arith in rw e at c.loop-k.invariant.1
