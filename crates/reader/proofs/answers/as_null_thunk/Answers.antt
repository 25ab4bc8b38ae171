-- `reader::answers::as_null_thunk` meets its contract.
use mathlib.Core.Path.{sym, ◌∙◌}
use native.Mathlib.Omega.{arith}
use Rattle.reader.proofs.Answering.{barred, lost, found, between-most, admits-thunk, thunk-fields}
use Rattle.reader.proofs.answers.as_null_thunk.Goals as goal

pub returns-then-not-fits : goal.returns-then-not-fits
returns-then-not-fits c =
    barred _ _ (admits-thunk _ _ c.requires.ordinary (sym c.fits.ensures ∙ c.if-not-fits.true))

pub find_null_thunk-requires : goal.find_null_thunk-requires
find_null_thunk-requires c = between-most 1 255 255 _ (sym c.fits.ensures ∙ c.if-not-fits.false) (omega arith)

pub returns-then-find_null_thunk-b : goal.returns-then-find_null_thunk-b
returns-then-find_null_thunk-b c =
    lost _ _ (admits-thunk _ _ c.requires.ordinary (sym c.fits.ensures ∙ c.if-not-fits.false))
    c.find_null_thunk.ensures c.if-find_null_thunk-b.true

pub returns : goal.returns
returns c =
    found _ _ (admits-thunk _ _ c.requires.ordinary (sym c.fits.ensures ∙ c.if-not-fits.false))
    c.find_null_thunk.ensures c.if-find_null_thunk-b.false (thunk-fields c.args.machine.number c.args.stem.now _ c.thunk_strings_at.ensures.0)
