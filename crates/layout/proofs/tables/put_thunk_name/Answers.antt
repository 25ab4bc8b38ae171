-- `layout::tables::put_thunk_name` meets its contract.
use Rattle.format.specs.Layouts.{thunk_name}
use Rattle.layout.proofs.Runs.{before}
use Rattle.layout.proofs.tables.put_thunk_name.Goals as goal

pub returns : goal.returns
unfolding thunk_name
returns c =
    before c.put-a.ensures c.put_pieces.ensures
