-- `layout::tables::null_name_len` meets its contract.
use native.Mathlib.Omega.{arith}
use mathlib.Core.Path.{ap, sym, ◌∙◌}
use lib.ListN.{length, length-append}
use Rattle.layout.proofs.tables.null_name_len.Goals as goal

pub returns : goal.returns
returns c = (sym (length-append c.null_name_pieces.result.0.now c.null_name_pieces.result.1.now) ∙ ap length (sym c.null_name_pieces.ensures.value), omega arith)
