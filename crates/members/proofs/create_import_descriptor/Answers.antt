-- `members::create_import_descriptor` meets its contract.
use Prim.Native.Nat.{ℕ, ◌+◌}
use mathlib.Core.Path.{ap, ◌∙◌}
use mathlib.Core.List.{[], ◌∷◌}
use lib.ListN.{length}
use Rattle.wire.specs.Bytes.{Bytes}
use Rattle.wire.proofs.Writes.{wrote-as}
use Rattle.format.specs.Layouts.{descriptor_bytes, descriptor_symbols_at, encode, strings, descriptor_name, null_name, thunk_name, compat_stem, strings_at}
use Rattle.layout.specs.Runs.{descriptor_data, descriptor_symbols}
use Rattle.layout.proofs.Runs.{◌⊕◌, behind-parts, headed, parts-as, table-part}
use Rattle.layout.proofs.Sizes.{begins-second, begins-third, symbols-descriptor}
use Rattle.members.proofs.Sizes.{stem-within}
use Rattle.members.proofs.create_import_descriptor.Goals as goal

pub put_descriptor_table-table-requires : goal.put_descriptor_table-table-requires
put_descriptor_table-table-requires c =
    stem-within _ c.requires.stem c.requires.dll_len_bound

pub returns : goal.returns
unfolding encode descriptor_bytes strings
returns c =
    let m = c.args.machine.number in
    let d = c.args.dll.now in
    let k = c.args.stem.now in
    let n = null_name (compat_stem c.args.compat k) in
    let null_at = strings_at + (length (descriptor_name k) + 1) in
    let thunk_at = null_at + (length n + 1) in
    let t = c.put_descriptor_table-table.result in
    let at = c.put_descriptor_table-table.ensures.name_at_value in
    let filled = parts-as (ap (λ (t : ℕ). descriptor_data t d) c.args.machine.row.relocation) c.put_descriptor_data-c.ensures in
    let symbols = parts-as (ap (λ (i : ℕ). descriptor_symbols i t.null_at t.thunk_at) at.0
    ∙ ap (λ (i : ℕ). descriptor_symbols strings_at i t.thunk_at) (at.1 ∙ begins-second (descriptor_name k) (n ∷ thunk_name k ∷ []))
    ∙ ap (descriptor_symbols strings_at null_at) (at.2 ∙ begins-third (descriptor_name k) n (thunk_name k ∷ []))) c.put_descriptor_symbols.ensures in
    let whole = (headed m 2 (descriptor_symbols_at d) 7 c.characteristics.ensures c.write-a.ensures
    ⊕ c.put_descriptor_sections-b.ensures
    ⊕ filled
    ⊕ behind-parts (symbols-descriptor strings_at null_at thunk_at) c.stop-d.ensures (table-part c.put_descriptor_table-table.ensures.table) symbols).wrote in
    wrote-as (ap (λ (k : Bytes). descriptor_bytes m d (descriptor_name k) (null_name (compat_stem c.args.compat k)) (thunk_name k)) c.requires.stem) whole
