-- `layout::parts::put_long` meets its contract.
use mir.Syntax.{w16}
use mir.Val.{to_z, of_z}
use mathlib.Core.Path.{◌≡◌, ap, ◌∙◌}
use lib.IntN.{ℤ}
use Rattle.wire.specs.Bytes.{Bytes}
use Rattle.wire.proofs.Writes.{wrote-as, wrote-length}
use Rattle.format.specs.Layouts.{symbol, long_name}
use borrow.Author.Rules.{rules}
use Rattle.layout.proofs.parts.put_long.Goals as goal

pub returns : goal.returns
returns c =
    let z = c.args.section_number in
    let back : to_z w16 (of_z w16 z) ≡ z = search rules in
    wrote-as (ap (λ (n : Bytes). symbol n (to_z w16 (of_z w16 z)) c.args.storage_class c.args.number_of_aux_symbols) c.long_name-name.ensures
    ∙ ap (λ (z : ℤ). symbol (long_name c.args.offset) z c.args.storage_class c.args.number_of_aux_symbols) back)
    c.write.ensures

pub shape_of-out : goal.shape_of-out
shape_of-out c = wrote-length (returns c)
