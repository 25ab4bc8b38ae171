-- `wire::marks_at` meets its contract.
use lib.Dec.{eqb}
use lib.Lanes.{chunk}
use mathlib.Core.Path.{◌∙◌}
use mir.Syntax.{w8}
use native.Mathlib.Omega.{arith}
use Rattle.std.proofs.lemmas.Simd.{bitmask_splat, length-chunk}
use Rattle.wire.specs.Bytes.{part}
use Rattle.wire.proofs.Parts.{marks-lanes}
use Rattle.wire.proofs.marks_at.Goals as goal

pub returns : goal.returns
unfolding part
returns g c =
    let n = g.row.N in
    let s = c.args.s.now in
    bitmask_splat w8 eqb (chunk c.args.at n s) n c.args.c (length-chunk c.args.at n s (omega arith)) (omega arith) ∙ marks-lanes _ _
