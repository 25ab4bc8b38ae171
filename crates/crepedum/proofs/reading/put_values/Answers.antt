-- `crepedum::reading::put_values` meets its contract.
use Rattle.crepedum.proofs.reading.put_values.Goals as goal

pub returns : goal.returns
returns c =
    rw (c.bit.ensures, c.narrow.ensures, c.narrow-2.ensures, c.narrow-3.ensures) at c.put_all.ensures
