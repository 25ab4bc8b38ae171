-- `reader::texts::admits_names` meets its contract.
use mathlib.Core.Path.{sym, ◌∙◌}
use Rattle.reader.proofs.Admitting.{names-unfit, names-by}
use Rattle.reader.proofs.texts.admits_names.Goals as goal

pub returns-then-not-fits : goal.returns-then-not-fits
returns-then-not-fits c = names-unfit _ _ (sym c.fits.ensures ∙ c.if-not-fits.true)

pub returns : goal.returns
returns c =
    names-by _ _ (sym c.fits.ensures ∙ c.if-not-fits.false) c.admits_dll.ensures
