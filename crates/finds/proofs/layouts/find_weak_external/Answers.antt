-- `finds::layouts::find_weak_external` meets its contract.
use mathlib.Core.Path.{◌∙◌}
use mathlib.Core.List.{[], ◌∷◌}
use native.Mathlib.Omega.{arith}
use Rattle.format.specs.Reader.{weak_strings_at}
use Rattle.laws.proofs.Lengths.{length-encode-weak}
use Rattle.laws.proofs.Places.{drop-encode-weak}
use Rattle.layout.proofs.Runs.{strings-append}
use Rattle.wire.proofs.Writes.{◌⨟◌}
use Rattle.finds.proofs.Drawn.{drawn-head, after-head}
use Rattle.finds.proofs.layouts.find_weak_external.Goals as goal

pub returns : goal.returns
returns c =
    let t = c.args.target.now in
    let w = c.args.alias.now in
    let head = drawn-head c.create_weak_external.ensures (omega (arith, length-encode-weak c.args.machine t w)) in
    after-head weak_strings_at head (drop-encode-weak c.args.machine t w ∙ strings-append (t ∷ []) (w ∷ [])) c.find-a.ensures
    (c.find_text-b.ensures ⨟ c.find_text.ensures)
