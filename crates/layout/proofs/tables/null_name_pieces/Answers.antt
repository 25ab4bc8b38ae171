-- `layout::tables::null_name_pieces` meets its contract.
use mathlib.Core.Path.{sym}
use Rattle.layout.proofs.NullNames.{null_name-compat, null_name-plain}
use Rattle.layout.proofs.tables.null_name_pieces.Goals as goal

pub returns-then-compat-clause-value : goal.returns-then-compat-clause-value
returns-then-compat-clause-value c = sym (null_name-compat _ _ c.if-compat.true)

pub returns-clause-value : goal.returns-clause-value
returns-clause-value c = sym (null_name-plain _ _ c.if-compat.false)
