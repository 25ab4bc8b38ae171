-- `records::Symbol::bytes` meets its contract.
use mathlib.Core.Path.{◌≡◌, sym, ap, ◌∙◌}
use lib.IntN.{ℤ}
use mir.Syntax.{w16}
use mir.Val.{to_z, of_z}
use Rattle.wire.specs.Bytes.{Bytes, join, le16}
use Rattle.wire.proofs.Writes.{array}
use Rattle.format.specs.Layouts.{word, symbol}
use borrow.Author.Rules.{rules}
use Rattle.records.proofs.Words.{of_z-word}
use Rattle.records.proofs.Symbol.bytes.Goals as goal

pub returns : goal.returns
unfolding symbol join
returns c =
    let s = c.args.self in
    let z = s.section_number in
    let back : to_z w16 (of_z w16 z) ≡ z = search rules in
    let e : c.to_le_bytes.result ≡ le16 (word z) = c.to_le_bytes.ensures ∙ ap (λ (y : ℤ). le16 (of_z w16 y)) back ∙ ap le16 (of_z-word z) in
    rw e (sym (ap (λ (n : Bytes). symbol n z s.storage_class s.number_of_aux_symbols) (array 8 s.name (search rules))))
