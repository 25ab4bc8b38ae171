-- `walks::pen::noted` meets its contract.
use Rattle.walks.proofs.Pens.{noted-by}
use Rattle.walks.proofs.pen.noted.Goals as goal

pub returns : goal.returns
returns c =
    noted-by c.entry_of.ensures c.at_of-at.ensures c.put_u32-half.ensures c.put_u32.ensures c.moved.ensures.0
    c.moved.ensures.1
