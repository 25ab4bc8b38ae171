-- `reader::texts::admits_dll` meets its contract.
use mathlib.Core.Path.{sym, ◌∙◌}
use Rattle.reader.proofs.Admitting.{dll-unfit, dll-by}
use Rattle.reader.proofs.texts.admits_dll.Goals as goal

pub returns-then-not-fits : goal.returns-then-not-fits
returns-then-not-fits c = dll-unfit _ (sym c.fits.ensures ∙ c.if-not-fits.true)

pub returns : goal.returns
returns c =
    dll-by _ (sym c.fits.ensures ∙ c.if-not-fits.false) c.barred.ensures
