-- `reader::answers::as_null_descriptor_of` meets its contract.
use mathlib.Core.Path.{sym, ◌∙◌}
use native.Mathlib.Omega.{arith}
use Rattle.reader.proofs.Answering.{barred, lost, found, between-most, admits-null-of, null-of-fields, null-of}
use Rattle.reader.proofs.answers.as_null_descriptor_of.Goals as goal

pub returns-then-not-fits : goal.returns-then-not-fits
returns-then-not-fits c =
    barred _ _ (admits-null-of _ _ c.requires.ordinary (sym c.fits.ensures ∙ c.if-not-fits.true))

pub find_null_import_descriptor-requires : goal.find_null_import_descriptor-requires
find_null_import_descriptor-requires c = between-most 1 255 255 _ (sym c.fits.ensures ∙ c.if-not-fits.false) (omega arith)

pub returns-then-find_null_import_descriptor-b : goal.returns-then-find_null_import_descriptor-b
returns-then-find_null_import_descriptor-b c =
    let m = c.args.machine.number in
    let k = c.args.stem.now in
    lost _ _ (admits-null-of m k c.requires.ordinary (sym c.fits.ensures ∙ c.if-not-fits.false))
    (null-of m k c.find_null_import_descriptor.ensures) c.if-find_null_import_descriptor-b.true

pub returns : goal.returns
returns c =
    let m = c.args.machine.number in
    let k = c.args.stem.now in
    found _ _ (admits-null-of m k c.requires.ordinary (sym c.fits.ensures ∙ c.if-not-fits.false))
    (null-of m k c.find_null_import_descriptor.ensures) c.if-find_null_import_descriptor-b.false (null-of-fields m k)
