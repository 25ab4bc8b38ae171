-- `layout::tables::put_descriptor_table` meets its contract.
use mathlib.Core.Path.{refl, sym, ◌∙◌}
use mathlib.Core.List.{[], ◌∷◌}
use Rattle.format.specs.Layouts.{strings, descriptor_name, null_name, thunk_name, compat_stem}
use Rattle.layout.proofs.Runs.{table, ◌⊞◌}
use Rattle.layout.proofs.Sizes.{begins-second, begins-third, null-at, thunk-at, size-descriptor}
use Rattle.layout.proofs.tables.put_descriptor_table.Goals as goal

pub returns : goal.returns
unfolding strings
returns c =
    let k = c.args.stem.now in
    let n = null_name (compat_stem c.args.compat k) in
    let e = c.null_name_len.ensures.0 in record { table = table _ (size-descriptor _ k n e) c.put_u32-a.ensures (c.put_descriptor_name-b.ensures ⊞ c.put_null_name-c.ensures ⊞ c.put_thunk_name-next.ensures); name_at_value = (refl, null-at k ∙ sym (begins-second (descriptor_name k) (n ∷ thunk_name k ∷ [])), thunk-at _ k n e ∙ sym (begins-third (descriptor_name k) n (thunk_name k ∷ []))) }
