-- `records::Section::bytes` meets its contract.
use mathlib.Core.Path.{sym, ap}
use Rattle.wire.specs.Bytes.{Bytes, join}
use Rattle.wire.proofs.Writes.{array}
use Rattle.format.specs.Layouts.{section}
use borrow.Author.Rules.{rules}
use Rattle.records.proofs.Section.bytes.Goals as goal

pub returns : goal.returns
unfolding section join
returns c =
    let s = c.args.self in
    rw (c.to_le_bytes.ensures, c.to_le_bytes-2.ensures, c.to_le_bytes-3.ensures, c.to_le_bytes-4.ensures, c.to_le_bytes-5.ensures)
    (sym (ap (λ (n : Bytes). section n s.size_of_raw_data s.pointer_to_raw_data s.pointer_to_relocations s.number_of_relocations s.characteristics) (array 8 s.name (search rules))))
