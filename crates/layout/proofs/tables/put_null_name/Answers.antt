-- `layout::tables::put_null_name` meets its contract.
use mathlib.Core.Path.{sym}
use Rattle.layout.proofs.Runs.{string-as}
use Rattle.layout.proofs.tables.put_null_name.Goals as goal

pub returns : goal.returns
returns c = string-as (sym c.null_name_pieces.ensures.value) c.put_pieces.ensures
