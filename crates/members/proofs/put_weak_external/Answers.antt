-- `members::put_weak_external` meets its contract.
use Prim.Native.Nat.{ℕ, ◌+◌}
use mathlib.Core.Path.{ap, ◌∙◌}
use mathlib.Core.List.{[], ◌∷◌, ◌++◌}
use lib.ListN.{length}
use Rattle.format.specs.Layouts.{weak_bytes, strings, strings_at}
use Rattle.layout.specs.Runs.{weak_symbols}
use Rattle.layout.proofs.Runs.{one, ◌⊕◌, behind-parts, parts-as, table-part}
use Rattle.layout.proofs.Sizes.{begins-second, symbols-weak}
use Rattle.members.proofs.put_weak_external.Goals as goal

pub returns : goal.returns
unfolding weak_bytes strings
returns c =
    let p = c.args.prefix.now in
    let n = c.args.sym.now in
    let w = c.args.weak.now in
    let alias_at = strings_at + (length (p ++ n) + 1) in
    let t = c.put_weak_table-table.result in
    let at = c.put_weak_table-table.ensures.target_at_value in
    let symbols = parts-as (ap (λ (i : ℕ). weak_symbols i t.alias_at) at.0
    ∙ ap (weak_symbols strings_at) (at.1 ∙ begins-second (p ++ n) ((p ++ w) ∷ []))) c.put_weak_symbols.ensures in
    (one c.write-a.ensures ⊕ one c.write-b.ensures ⊕ behind-parts (symbols-weak strings_at alias_at) c.stop-c.ensures (table-part c.put_weak_table-table.ensures.table) symbols).wrote
