-- `members::put_null_thunk` meets its contract.
use Rattle.format.specs.Layouts.{null_thunk_bytes, thunk_symbols_at}
use Rattle.layout.proofs.Runs.{one, ◌⊕◌, headed, table-part}
use Rattle.members.proofs.put_null_thunk.Goals as goal

pub put_thunk_table-requires : goal.put_thunk_table-requires
put_thunk_table-requires c =
    c.requires.stem_len_bound

pub returns : goal.returns
unfolding null_thunk_bytes
returns c =
    (headed c.args.machine.number 2 (thunk_symbols_at c.args.slot) 1 c.characteristics.ensures c.write-a.ensures
    ⊕ one c.write-b.ensures
    ⊕ one c.write-c.ensures
    ⊕ one c.put_zeros-d.ensures
    ⊕ one c.put_zeros-e.ensures
    ⊕ one c.put_long-f.ensures
    ⊕ table-part c.put_thunk_table.ensures).wrote
