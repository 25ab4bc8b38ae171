-- `library::set::put_header` meets its contract.
use Rattle.wire.proofs.Writes.{◌⨾◌}
use Rattle.library.proofs.set.put_header.Goals as goal

pub returns : goal.returns
returns c =
    ((c.put_u32-a.ensures ⨾ c.put_u32-b.ensures) ⨾ c.put_u32-c.ensures) ⨾ c.put_u32.ensures
