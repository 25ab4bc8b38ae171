-- `finds::layouts::find_short` meets its contract.
use Prim.Native.Nat.{ℕ}
use mathlib.Core.Path.{sym, ap}
use mathlib.Core.List.{[], ◌∷◌}
use Rattle.wire.proofs.Writes.{◌⨟◌, found-as}
use Rattle.format.specs.Layouts.{import_header}
use Rattle.layout.proofs.Runs.{strings-append}
use Rattle.members.proofs.Sizes.{size-short}
use Rattle.finds.proofs.layouts.find_short.Goals as goal

pub returns : goal.returns
returns c =
    let s = c.args.symbol.now in
    let d = c.args.dll.now in
    let h = found-as (ap (λ (n : ℕ). import_header c.args.machine n c.args.ordinal c.args.types) (size-short s d)) c.find-a.ensures in
    h ⨟ found-as (sym (strings-append (s ∷ []) (d ∷ []))) (c.find_text-b.ensures ⨟ c.find_text.ensures)
