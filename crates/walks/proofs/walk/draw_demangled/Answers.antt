-- `walks::walk::draw_demangled` meets its contract.
use Rattle.std.specs.Prelude.{Some}
use mathlib.Core.Path.{sym, ap, ap₂, ◌∙◌}
use Rattle.walks.proofs.Pens.{room-as, drew-as}
use native.Mathlib.Omega.{arith}
use Rattle.wire.proofs.Bytes.{length-part-le}
use mathlib.Core.List.{[], ◌++◌}
use lib.ListN.{length}
use Rattle.walks.proofs.Imports.{exporting, dropped-some, dropped-is, cut-some, cut-is, fails-is}
use Prim.Native.Nat.{◌+◌, ◌-◌}
use Rattle.walks.proofs.walk.draw_demangled.Goals as goal

pub overflow_sub-n : goal.overflow_sub-n
overflow_sub-n c =
    dropped-some _ _ c.get_arm64ec_demangled_function_name.ensures (c.in-Some-Dropped.is ∙ ap Some c.in-Some-Dropped.field-0-is)

pub part-rest-requires : goal.part-rest-requires
part-rest-requires c =
    omega (arith, dropped-some _ _ c.get_arm64ec_demangled_function_name.ensures (c.in-Some-Dropped.is ∙ ap Some c.in-Some-Dropped.field-0-is))

pub draw_import-requires : goal.draw_import-requires
draw_import-requires c = record { room = room-as (exporting _ _ _ _ _ (sym (ap (λ s. s ++ []) c.part-rest.ensures ∙ dropped-is _ _ c.get_arm64ec_demangled_function_name.ensures (c.in-Some-Dropped.is ∙ ap Some c.in-Some-Dropped.field-0-is)))) c.requires.room; sym_len_bound = ((c.requires.sym_len_bound.0, c.requires.sym_len_bound.1), (omega (arith, c.requires.sym_len_bound.2, ap length c.part-rest.ensures, length-part-le c.args.public.now 1 (length c.args.public.now - 1)), omega arith)) }

pub overflow_add-after : goal.overflow_add-after
overflow_add-after c =
    omega (arith, cut-some _ _ c.get_arm64ec_demangled_function_name.ensures _ (c.in-Some-Cut.is ∙ ap Some c.in-Some-Cut.field-0-is), c.requires.sym_len_bound.2)

pub part-head-requires : goal.part-head-requires
part-head-requires c =
    omega (arith, cut-some _ _ c.get_arm64ec_demangled_function_name.ensures _ (c.in-Some-Cut.is ∙ ap Some c.in-Some-Cut.field-0-is))

pub overflow_sub-n-in-Some-Cut : goal.overflow_sub-n-in-Some-Cut
overflow_sub-n-in-Some-Cut c =
    omega (arith, cut-some _ _ c.get_arm64ec_demangled_function_name.ensures _ (c.in-Some-Cut.is ∙ ap Some c.in-Some-Cut.field-0-is))

pub part-tail-requires : goal.part-tail-requires
part-tail-requires c =
    omega (arith, cut-some _ _ c.get_arm64ec_demangled_function_name.ensures _ (c.in-Some-Cut.is ∙ ap Some c.in-Some-Cut.field-0-is))

pub draw_import-requires-in-Some-Cut : goal.draw_import-requires-in-Some-Cut
draw_import-requires-in-Some-Cut c = record { room = room-as (exporting _ _ _ _ _ (sym (ap₂ ◌++◌ c.part-head.ensures c.part-tail.ensures ∙ cut-is _ _ c.get_arm64ec_demangled_function_name.ensures _ (c.in-Some-Cut.is ∙ ap Some c.in-Some-Cut.field-0-is)))) c.requires.room; sym_len_bound = ((c.requires.sym_len_bound.0, c.requires.sym_len_bound.1), (omega (arith, c.requires.sym_len_bound.2, ap length c.part-head.ensures, length-part-le c.args.public.now 0 c.in-Some-Cut.at, cut-some _ _ c.get_arm64ec_demangled_function_name.ensures _ (c.in-Some-Cut.is ∙ ap Some c.in-Some-Cut.field-0-is)), omega (arith, c.requires.sym_len_bound.2, ap length c.part-tail.ensures, length-part-le c.args.public.now (c.in-Some-Cut.at + 3) (length c.args.public.now - (c.in-Some-Cut.at + 3))))) }

pub draw_import-requires-in-None : goal.draw_import-requires-in-None
draw_import-requires-in-None c = record { room = room-as (exporting _ _ _ _ _ (sym (fails-is _ _ c.get_arm64ec_demangled_function_name.ensures c.in-None.is))) c.requires.room; sym_len_bound = ((c.requires.sym_len_bound.0, c.requires.sym_len_bound.1), (omega arith, omega arith)) }

pub returns-in-Some-Dropped : goal.returns-in-Some-Dropped
returns-in-Some-Dropped c =
    drew-as
    (exporting _ _ _ _ _ (ap (λ s. s ++ []) c.part-rest.ensures ∙ dropped-is _ _ c.get_arm64ec_demangled_function_name.ensures (c.in-Some-Dropped.is ∙ ap Some c.in-Some-Dropped.field-0-is)))
    c.draw_import.ensures

pub returns-in-Some-Cut : goal.returns-in-Some-Cut
returns-in-Some-Cut c =
    drew-as
    (exporting _ _ _ _ _ (ap₂ ◌++◌ c.part-head.ensures c.part-tail.ensures ∙ cut-is _ _ c.get_arm64ec_demangled_function_name.ensures _ (c.in-Some-Cut.is ∙ ap Some c.in-Some-Cut.field-0-is)))
    c.draw_import-in-Some-Cut.ensures

pub returns-in-None : goal.returns-in-None
returns-in-None c =
    drew-as (exporting _ _ _ _ _ (fails-is _ _ c.get_arm64ec_demangled_function_name.ensures c.in-None.is))
    c.draw_import-in-None.ensures
