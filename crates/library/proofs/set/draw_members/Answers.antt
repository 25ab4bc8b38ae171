-- `library::set::draw_members` meets its contract.
use Prim.Native.Nat.{ℕ, ◌+◌}
use mathlib.Core.Path.{ap}
use native.Mathlib.Omega.{arith}
use Rattle.laws.proofs.Totals.{stem-short}
use Rattle.format.proofs.Listed.{listed}
use Rattle.names.proofs.DllNames.{stem-part}
use Rattle.library.proofs.Resolving.{resolved-first, resolved-native}
use Rattle.library.proofs.MemberSets.{counts-small, set-fixed, set-first, set-native, set-drew, counted-by}
use Rattle.library.proofs.set.draw_members.Goals as goal

pub part-stem-requires : goal.part-stem-requires
part-stem-requires c =
    omega (arith, c.stem.ensures.size, stem-short c.args.dll.now)

pub u32_at-count-requires : goal.u32_at-count-requires
u32_at-count-requires c =
    omega (arith, (listed _ c.requires.b_value).shape.headed)

pub u32_at-requires : goal.u32_at-requires
u32_at-requires c =
    omega (arith, (listed _ c.requires.b_value).shape.headed)

pub overflow_add-both : goal.overflow_add-both
overflow_add-both c =
    let (f, n, _) = counts-small _ c.requires.b_value c.u32_at-count.ensures c.u32_at.ensures in omega arith

pub draw_fixed-fixed-requires : goal.draw_fixed-fixed-requires
draw_fixed-fixed-requires c = record { room = set-fixed _ _ _ _ _ _ c.requires.room; dll_len_bound = (c.requires.dll_len_bound, stem-part c.part-stem.ensures c.stem.ensures) }

pub draw_list-firsts-requires : goal.draw_list-firsts-requires
draw_list-firsts-requires c =
    let (f, n, s) = counts-small _ c.requires.b_value c.u32_at-count.ensures c.u32_at.ensures in
    record { room = set-first _ _ _ _ _ _ c.requires.room c.draw_fixed-fixed.ensures c.u32_at-count.ensures; b_value = c.requires.b_value; from_le_to = (omega arith, omega arith); dll_len_bound = c.requires.dll_len_bound; resolved = resolved-first c.requires.resolved_by c.u32_at-count.ensures }

pub draw_list-natives-requires : goal.draw_list-natives-requires
draw_list-natives-requires c =
    let (f, n, s) = counts-small _ c.requires.b_value c.u32_at-count.ensures c.u32_at.ensures in
    record { room = set-native _ _ _ _ _ _ c.requires.room c.draw_fixed-fixed.ensures c.u32_at-count.ensures c.draw_list-firsts.ensures (ap (λ (n : ℕ). c.u32_at-count.result + n) c.u32_at.ensures); b_value = c.requires.b_value; from_le_to = (omega arith, omega arith); dll_len_bound = c.requires.dll_len_bound; resolved = resolved-native c.requires.resolved_by c.u32_at-count.ensures (ap (λ (n : ℕ). c.u32_at-count.result + n) c.u32_at.ensures) }

pub returns : goal.returns
returns c =
    counted-by c.entry_of.ensures c.entry_of-2.ensures c.entry_of-3.ensures c.entry_of-4.ensures
    (set-drew _ _ _ _ _ _ c.requires.room c.draw_fixed-fixed.ensures c.u32_at-count.ensures c.draw_list-firsts.ensures (ap (λ (n : ℕ). c.u32_at-count.result + n) c.u32_at.ensures) c.draw_list-natives.ensures)
