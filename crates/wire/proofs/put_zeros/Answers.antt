-- `wire::put_zeros` meets its contract: the first of n zeros, as many as there is room for.
use Prim.Native.Nat.{◌-◌}
use native.Mathlib.Omega.{arith}
use mathlib.Core.Path.{◌≡◌, sym, ap, ◌∙◌}
use Rattle.std.proofs.lemmas.List.{take-replicate}
use lib.ListN.{length, take, drop, length-drop}
use lib.Seq.{length-take-le}
use Rattle.wire.specs.Bytes.{zeros}
use Rattle.wire.proofs.Parts.{length-zeros}
use Rattle.wire.proofs.Writes.{wrote-out, wrote-part, wrote-end, wrote-as}
use Rattle.wire.proofs.put_zeros.Goals as goal

pub returns-then-out-at : goal.returns-then-out-at
returns-then-out-at c = wrote-out _ _ _ c.if-out-at.true

pub returns : goal.returns
returns c =
    let n = c.args.n in
    let out = c.args.out.now in
    let at = c.args.at in
    let k = c.stop-next.result - at in
    let z : length (zeros k) ≡ k = length-zeros k in
    let e : length (take k (drop at out)) ≡ k = length-take-le k (drop at out) (omega (arith, length-drop at out)) in
    let f = c.fill.ensures.after (λ y h. h) ∙ ap zeros e in
    wrote-end (zeros n) k (omega (arith, length-zeros n))
    (wrote-as {b = take k (zeros n)} (sym (take-replicate k n 0 (omega arith))) (wrote-part {b = zeros k} out at (omega arith) (sym z) f (omega arith)))
