-- `members::create_null_import_descriptor` meets its contract.
use Rattle.format.specs.Layouts.{null_descriptor_bytes, null_symbols_at, encode}
use Rattle.layout.proofs.Runs.{one, ◌⊕◌, headed, table-part}
use Rattle.members.proofs.create_null_import_descriptor.Goals as goal

pub returns : goal.returns
unfolding encode null_descriptor_bytes
returns c =
    let m = c.args.machine.number in
    (headed m 1 null_symbols_at 1 c.characteristics.ensures c.write-a.ensures
    ⊕ one c.write-b.ensures
    ⊕ one c.write-c.ensures
    ⊕ one c.put_long-d.ensures
    ⊕ table-part c.put_null_table.ensures).wrote
