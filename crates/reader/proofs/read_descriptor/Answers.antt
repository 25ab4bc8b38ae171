-- `reader::read_descriptor` meets its contract.
use mathlib.Core.Path.{refl, sym, ap, ◌∙◌}
use native.Mathlib.Omega.{arith}
use Rattle.laws.proofs.Totals.{stem-short}
use Rattle.format.specs.Reader.{ordinary}
use Rattle.names.proofs.DllNames.{stem-part}
use Rattle.reader.specs.Answers.{answer}
use Rattle.reader.proofs.Answering.{barred, dll-most}
use Rattle.reader.proofs.Admitting.{clear-as}
use Rattle.reader.proofs.Guessing.{descriptor-guessed, descriptor-barred}
use Rattle.reader.proofs.read_descriptor.Goals as goal

pub admits_dll-requires : goal.admits_dll-requires
admits_dll-requires c = clear-as _ _ c.text-dll.ensures

pub returns-then-not-admits_dll : goal.returns-then-not-admits_dll
returns-then-not-admits_dll c =
    barred _ _
    (descriptor-barred _ (ap ordinary (sym c.requires.first) ∙ c.requires.ordinary) c.text-dll.ensures (sym c.admits_dll.ensures ∙ c.if-not-admits_dll.true))

pub part-stem-requires : goal.part-stem-requires
part-stem-requires c =
    omega (arith, c.stem.ensures.size, stem-short c.text-dll.result.now)

pub descriptor_size-requires : goal.descriptor_size-requires
descriptor_size-requires c =
    let d = c.text-dll.result.now in
    let admitted = sym c.admits_dll.ensures ∙ c.if-not-admits_dll.false in
    record { dll_len_bound = dll-most 255 d admitted (omega arith); stem = stem-part c.part-stem.ensures c.stem.ensures }

pub as_descriptor-requires : goal.as_descriptor-requires
as_descriptor-requires c = record { ordinary = c.requires.ordinary; dll_value = sym c.admits_dll.ensures ∙ c.if-not-admits_dll.false; stem = stem-part c.part-stem.ensures c.stem.ensures }

pub returns : goal.returns
returns c =
    c.as_descriptor.ensures ∙ ap (answer c.args.b.now)
    (descriptor-guessed _ c.requires.first c.text-dll.ensures (c.descriptor_size.ensures _) refl)
