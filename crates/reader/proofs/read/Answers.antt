-- `reader::read` meets its contract.
use mathlib.Core.Path.{sym, ap, ◌∙◌}
use Rattle.format.specs.Reader.{ordinary}
use Rattle.records.specs.declared.FileHeader.{FileHeader}
use Rattle.reader.proofs.Guessing.{answer-short, answer-object, read-barred, read-shorter}
use Rattle.reader.proofs.read.Goals as goal

pub returns-then-b-lt-SIZE : goal.returns-then-b-lt-SIZE
returns-then-b-lt-SIZE c = read-shorter _ c.if-b-lt-SIZE.true

pub returns-then-h-eq0 : goal.returns-then-h-eq0
returns-then-h-eq0 c =
    let e = ap (λ (h : FileHeader). h.machine) c.read-h.ensures in
    answer-short _ (sym e ∙ c.if-h-eq0.true) c.read_short.ensures

pub returns-in_default : goal.returns-in_default
returns-in_default c =
    let e = ap (λ (h : FileHeader). h.machine) c.read-h.ensures in
    read-barred _ (λ z. c.if-h-eq0.false (e ∙ z))
    (ap ordinary (sym e) ∙ (rw c.in_default.is at c.ordinary_machine.ensures))

pub read_object-requires : goal.read_object-requires
read_object-requires c =
    let e = ap (λ (h : FileHeader). h.machine) c.read-h.ensures in
    let k = rw c.in-Some.is at c.ordinary_machine.ensures in
    record { ordinary = k.1; first = k.0 ∙ e }

pub returns : goal.returns
returns c =
    let e = c.read-h.ensures in
    answer-object _ (λ z. c.if-h-eq0.false (ap (λ (h : FileHeader). h.machine) e ∙ z))
    (ap (λ (h : FileHeader). h.number_of_symbols) e) (ap (λ (h : FileHeader). h.number_of_sections) e) c.read_object.ensures
