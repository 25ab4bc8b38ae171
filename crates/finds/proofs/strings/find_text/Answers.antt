-- `finds::strings::find_text` meets its contract.
use mathlib.Core.Path.{sym, ap, ◌∙◌}
use native.Mathlib.Omega.{arith}
use lib.ListN.{length}
use Rattle.format.specs.Layouts.{strings}
use Rattle.format.specs.Reader.{text_at}
use Rattle.finds.proofs.Texts.{length-text, text-found}
use Rattle.wire.proofs.Writes.{◌⨟◌}
use Rattle.finds.proofs.strings.find_text.Goals as goal

pub overflow_add-at : goal.overflow_add-at
overflow_add-at c =
    omega (arith, ap length c.requires, length-text c.args.s.now c.args.place)

pub returns-then-at-place : goal.returns-then-at-place
unfolding strings
returns-then-at-place c =
    text-found c.args.s.now c.args.at (c.requires ∙ ap (text_at c.args.s.now) (sym c.if-at-place.true)) ⨟ c.find_zeros.ensures

pub returns : goal.returns
unfolding strings
returns c = c.find-a.ensures ⨟ c.find_zeros-2.ensures
