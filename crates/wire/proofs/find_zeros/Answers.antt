-- `wire::find_zeros` meets its contract.
use native.Mathlib.Omega.{arith}
use mathlib.Core.Path.{sym, ap, ◌∙◌}
use Rattle.std.proofs.lemmas.Slice.{between_to_end}
use lib.ListN.{length, take}
use lib.Seq.{length-take-le}
use Rattle.wire.specs.Bytes.{part, zeros}
use Rattle.wire.proofs.Parts.{length-zeros, zeros-each}
use Rattle.wire.proofs.Writes.{found-there}
use Rattle.wire.proofs.find_zeros.Goals as goal

pub returns-in-Some : goal.returns-in-Some
unfolding part
returns-in-Some c =
    let e = c.in-Some.ensures.lookup.0 in
    let n = c.args.n in
    let s = c.args.s.now in
    let rest = c.in-Some.rest.now in
    found-there s c.args.at (zeros n) n (length-zeros n) (omega arith)
    (ap (take n) (sym (e.2 ∙ between_to_end s c.args.at (length s) (omega arith))) ∙ zeros-each (take n rest) (c.blank.ensures.0 c.if-blank.true) ∙ ap zeros (length-take-le n rest (omega arith)))
