-- `library::aliases::resolve_all` meets its contract.
use mathlib.Core.Path.{ap}
use Prim.Native.Nat.{ℕ, ◌+◌}
use native.Mathlib.Omega.{arith}
use Rattle.format.proofs.Listed.{listed}
use Rattle.library.proofs.Resolving.{both-resolved}
use Rattle.library.proofs.MemberSets.{counts-small}
use Rattle.library.proofs.aliases.resolve_all.Goals as goal

pub u32_at-count-requires : goal.u32_at-count-requires
u32_at-count-requires c =
    omega (arith, (listed _ c.requires.b_value).shape.headed)

pub u32_at-requires : goal.u32_at-requires
u32_at-requires c =
    omega (arith, (listed _ c.requires.b_value).shape.headed)

pub overflow_add-both : goal.overflow_add-both
overflow_add-both c =
    let (f, n, _) = counts-small _ c.requires.b_value c.u32_at-count.ensures c.u32_at.ensures in omega arith

pub resolve-requires : goal.resolve-requires
resolve-requires c =
    let (f, n, s) = counts-small _ c.requires.b_value c.u32_at-count.ensures c.u32_at.ensures in
    record { in_bounds = c.requires.table_slots_in_bounds; b_value = c.requires.b_value; from_le_to = (omega arith, omega arith); b_in_bounds = c.requires.b_in_bounds }

pub resolve-requires-2 : goal.resolve-requires-2
resolve-requires-2 c =
    let (f, n, s) = counts-small _ c.requires.b_value c.u32_at-count.ensures c.u32_at.ensures in
    record { in_bounds = omega (arith, c.resolve.auto.slots, c.requires.table_slots_in_bounds); b_value = c.requires.b_value; from_le_to = (omega arith, omega arith); b_in_bounds = omega (arith, c.resolve.auto.targets, c.requires.b_in_bounds) }

pub returns : goal.returns
returns c =
    both-resolved _ _ _ c.first-first.ensures c.native-native.ensures c.u32_at-count.ensures
    (ap (λ (n : ℕ). c.u32_at-count.result + n) c.u32_at.ensures) c.resolve.ensures.0 c.resolve-2.ensures.0 c.resolve-2.ensures.1
    (omega (arith, c.resolve-2.auto.targets))
