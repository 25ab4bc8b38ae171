-- `library::aliases::has_wanted` meets its contract.
use mathlib.Core.Path.{◌≡◌, ap, ◌∙◌}
use Prim.Native.Nat.{◌+◌, ◌-◌}
use native.Mathlib.Omega.{arith}
use Rattle.format.specs.Exports.{both_counts}
use Rattle.format.proofs.Listed.{listed}
use Rattle.keys.specs.Targets.{any_wanted}
use Rattle.library.proofs.MemberSets.{counts-small}
use Rattle.library.proofs.aliases.has_wanted.Goals as goal

pub u32_at-requires : goal.u32_at-requires
u32_at-requires c = omega (arith, (listed _ c.requires).shape.headed)

pub u32_at-requires-2 : goal.u32_at-requires-2
u32_at-requires-2 c =
    omega (arith, (listed _ c.requires).shape.headed)

pub overflow_add-both : goal.overflow_add-both
overflow_add-both c =
    let (f, n, _) = counts-small _ c.requires c.u32_at.ensures c.u32_at-2.ensures in omega arith

pub has_wanted-requires : goal.has_wanted-requires
has_wanted-requires c =
    let (f, n, s) = counts-small _ c.requires c.u32_at.ensures c.u32_at-2.ensures in record { b_value = c.requires; from_le_to = (omega arith, omega arith) }

pub returns : goal.returns
returns c =
    let (f, n, s) = counts-small _ c.requires c.u32_at.ensures c.u32_at-2.ensures in
    let all : c.u32_at.result + c.u32_at-2.result - 0 ≡ both_counts c.args.b.now = omega arith in
    c.has_wanted.ensures ∙ ap (any_wanted c.args.b.now 0) all
