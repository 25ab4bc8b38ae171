-- `records::name_at` meets its contract.
use mathlib.Core.Path.{sym, ap, ◌∙◌}
use lib.ListN.{length}
use Rattle.wire.proofs.Bytes.{length-part}
use Rattle.records.proofs.name_at.Goals as goal

pub copy_from_slice-requires : goal.copy_from_slice-requires
copy_from_slice-requires c = sym (ap length c.part.ensures ∙ length-part _ _ _ c.requires)
