-- `reader::answers::as_weak` meets its contract.
use Rattle.reader.proofs.Admitting.{clear-as}
use mathlib.Core.Path.{sym, ◌∙◌}
use native.Mathlib.Omega.{arith}
use Rattle.reader.proofs.Answering.{barred, lost, found, between-most, weak-unfit, admits-weak, weak-fields}
use Rattle.reader.proofs.answers.as_weak.Goals as goal

pub fits-requires : goal.fits-requires
fits-requires c =
    clear-as _ _ c.requires.target_value

pub returns-then-not-fits : goal.returns-then-not-fits
returns-then-not-fits c =
    barred _ _ (weak-unfit _ _ _ c.requires.machine_value (sym c.fits.ensures ∙ c.if-not-fits.true))

pub fits-requires-2 : goal.fits-requires-2
fits-requires-2 c =
    clear-as _ _ c.requires.alias_value

pub returns-then-not-fits-2 : goal.returns-then-not-fits-2
returns-then-not-fits-2 c =
    barred _ _ (admits-weak _ _ _ c.requires.machine_value (sym c.fits.ensures ∙ c.if-not-fits.false) (sym c.fits-2.ensures ∙ c.if-not-fits-2.true))

pub find_weak_external-requires : goal.find_weak_external-requires
find_weak_external-requires c =
    record {
      target_len_bound = (
        between-most 1 8195 65536 _ (sym c.fits.ensures ∙ c.if-not-fits.false) (omega arith),
        between-most 1 8195 65536 _ (sym c.fits-2.ensures ∙ c.if-not-fits-2.false) (omega arith),
      );
      target_value = c.requires.target_value;
      alias_value = c.requires.alias_value;
    }

pub returns-then-find_weak_external-b : goal.returns-then-find_weak_external-b
returns-then-find_weak_external-b c =
    lost _ _ (admits-weak _ _ _ c.requires.machine_value (sym c.fits.ensures ∙ c.if-not-fits.false) (sym c.fits-2.ensures ∙ c.if-not-fits-2.false))
    c.find_weak_external.ensures c.if-find_weak_external-b.true

pub returns : goal.returns
returns c =
    found _ _ (admits-weak _ _ _ c.requires.machine_value (sym c.fits.ensures ∙ c.if-not-fits.false) (sym c.fits-2.ensures ∙ c.if-not-fits-2.false))
    c.find_weak_external.ensures c.if-find_weak_external-b.false (weak-fields c.args.machine c.args.target.now c.args.alias.now)
