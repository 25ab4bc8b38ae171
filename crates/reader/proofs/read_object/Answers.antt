-- `reader::read_object` meets its contract.
use mathlib.Core.Path.{ap, ◌∙◌}
use Rattle.reader.specs.Answers.{answer}
use Rattle.reader.proofs.Guessing.{object-descriptor, object-weak, object-null, object-thunk}
use Rattle.reader.proofs.read_object.Goals as goal

pub returns-then-symbols-eq-DESCRIPTOR_SYMBOLS : goal.returns-then-symbols-eq-DESCRIPTOR_SYMBOLS
returns-then-symbols-eq-DESCRIPTOR_SYMBOLS c =
    c.read_descriptor.ensures ∙ ap (answer c.args.b.now) (object-descriptor _ _ _ c.if-symbols-eq-DESCRIPTOR_SYMBOLS.true)

pub returns-then-symbols-eq-WEAK_SYMBOLS : goal.returns-then-symbols-eq-WEAK_SYMBOLS
returns-then-symbols-eq-WEAK_SYMBOLS c =
    c.read_weak.ensures ∙ ap (answer c.args.b.now) (object-weak _ _ _ c.if-symbols-eq-DESCRIPTOR_SYMBOLS.false c.if-symbols-eq-WEAK_SYMBOLS.true)

pub returns-then-sections-eq1 : goal.returns-then-sections-eq1
returns-then-sections-eq1 c =
    c.read_null_descriptor.ensures ∙ ap (answer c.args.b.now)
    (object-null _ _ _ c.if-symbols-eq-DESCRIPTOR_SYMBOLS.false c.if-symbols-eq-WEAK_SYMBOLS.false c.if-sections-eq1.true)

pub returns : goal.returns
returns c =
    c.read_null_thunk.ensures ∙ ap (answer c.args.b.now)
    (object-thunk _ _ _ c.if-symbols-eq-DESCRIPTOR_SYMBOLS.false c.if-symbols-eq-WEAK_SYMBOLS.false c.if-sections-eq1.false)
