-- `records::Symbol::read` meets its contract.
use mathlib.Core.Path.{◌≡◌, ◌∙◌}
use mir.Syntax.{w16}
use mir.Val.{to_z, of_z}
use mir.Facts.{to_z-of_z}
use Rattle.records.specs.Records.{signed}
use Rattle.records.proofs.Words.{to_z-signed}
use Rattle.records.proofs.Symbol.read.Goals as goal

pub returns : goal.returns
returns c =
    let back : to_z w16 (of_z w16 c.cast_signed.result) ≡ c.cast_signed.result = to_z-of_z {w = w16} (record { sfits = c.cast_signed.type_inv }) in
    let e : c.cast_signed.result ≡ signed c.u16_at.result = c.cast_signed.ensures ∙ to_z-signed _ in
    rw (back, e, c.u16_at.ensures, c.name_at.ensures)
