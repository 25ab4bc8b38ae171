-- `layout::parts::put_weak_symbols` meets its contract.
use mathlib.Core.Path.{ap}
use Rattle.wire.specs.Bytes.{Bytes}
use Rattle.wire.proofs.Writes.{wrote-as, wrote-length}
use Rattle.format.specs.Layouts.{symbol, IMAGE-SYM-UNDEFINED, IMAGE-SYM-CLASS-NULL}
use Rattle.layout.proofs.Runs.{one, ◌⊕◌}
use Rattle.layout.proofs.parts.put_weak_symbols.Goals as goal

pub returns : goal.returns
returns c =
    let aux = wrote-as (ap (λ (n : Bytes). symbol n IMAGE-SYM-UNDEFINED IMAGE-SYM-CLASS-NULL 0) c.auxiliary-aux.ensures)
    c.write.ensures in
    one c.write-a.ensures ⊕ one c.write-b.ensures ⊕ one c.put_long-c.ensures ⊕ one c.put_long-d.ensures ⊕ one aux

pub shape_of-out : goal.shape_of-out
shape_of-out c = wrote-length (returns c).wrote
