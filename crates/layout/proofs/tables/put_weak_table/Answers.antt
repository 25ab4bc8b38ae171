-- `layout::tables::put_weak_table` meets its contract.
use mathlib.Core.Path.{refl, sym, ◌∙◌}
use mathlib.Core.List.{[], ◌∷◌, ◌++◌}
use Rattle.format.specs.Layouts.{strings}
use Rattle.layout.proofs.Runs.{table, ◌⊞◌}
use Rattle.layout.proofs.Sizes.{begins-second, alias-at, size-weak}
use Rattle.layout.proofs.tables.put_weak_table.Goals as goal

pub returns : goal.returns
unfolding strings
returns c =
    let p = c.args.prefix.now in
    let s = c.args.sym.now in record { table = table _ (size-weak p s c.args.weak.now) c.put_u32-a.ensures (c.put_pieces-b.ensures ⊞ c.put_pieces-next.ensures); target_at_value = (refl, alias-at p s ∙ sym (begins-second (p ++ s) ((p ++ c.args.weak.now) ∷ []))) }
