-- `search::skip` meets its contract.
use Prim.Native.Nat.{ℕ, ◌+◌}
use mathlib.Core.Path.{ap, ◌∙◌}
use native.Mathlib.Omega.{arith}
use lib.ListN.{length}
use Rattle.std.proofs.lemmas.List.{take_rest}
use Rattle.wire.specs.Bytes.{Bytes, before}
use Rattle.search.proofs.Searches.{skip-inside, before-taken}
use Rattle.search.proofs.skip.Goals as goal

pub overflow_add-result : goal.overflow_add-result
overflow_add-result c =
    omega (arith, before-taken _ _ _ c.index_of.ensures, c.requires)

pub returns : goal.returns
returns c =
    let e = c.index_of.ensures ∙ ap (λ (x : Bytes). length (before c.args.c x)) (take_rest c.args.text.now c.args.i) in
    (ap (λ (k : ℕ). c.args.i + k) e, omega (arith, e, skip-inside c.args.c c.args.text.now c.args.i c.requires))
