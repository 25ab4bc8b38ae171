-- `reader::texts::fits` meets its contract.
use native.Mathlib.Omega.{arith}
use Rattle.reader.proofs.Admitting.{between-less, between-by}
use Rattle.reader.proofs.texts.fits.Goals as goal

pub returns-then-s-low : goal.returns-then-s-low
returns-then-s-low c = between-less _ _ _ c.if-s-low.true

pub returns : goal.returns
returns c = between-by _ _ _ (omega arith) c.requires
