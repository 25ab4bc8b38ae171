-- `reader::texts::text` meets its contract.
use native.Mathlib.Omega.{arith}
use Rattle.wire.proofs.Parts.{length-before}
use Rattle.reader.proofs.Admitting.{text-first}
use Rattle.finds.proofs.Texts.{text-out}
use Rattle.reader.proofs.texts.text.Goals as goal

pub returns-then-b-at : goal.returns-then-b-at
returns-then-b-at c = text-out _ _ (omega arith) c.part.ensures

pub part-requires-2 : goal.part-requires-2
part-requires-2 c = omega (arith, c.index_of-n.ensures, length-before 0 c.part-rest.result.now)

pub returns : goal.returns
returns c =
    text-first _ _ _ (omega arith) c.part-rest.ensures c.index_of-n.ensures c.part-2.ensures
