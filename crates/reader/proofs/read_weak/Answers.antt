-- `reader::read_weak` meets its contract.
use mathlib.Core.Path.{ap, ◌∙◌}
use mir.Syntax.{w16}
use mir.Val.{of_z}
use Rattle.records.specs.declared.Symbol.{Symbol}
use Rattle.reader.specs.Answers.{answer}
use Rattle.reader.proofs.Answering.{unlike}
use Rattle.reader.proofs.Guessing.{weak-guessed, weak-long, weak-absolute}
use Rattle.reader.proofs.read_weak.Goals as goal

pub returns-then-b-lt-WEAK_STRINGS_AT : goal.returns-then-b-lt-WEAK_STRINGS_AT
returns-then-b-lt-WEAK_STRINGS_AT c =
    unlike _ _ (weak-long c.args.b.now c.if-b-lt-WEAK_STRINGS_AT.true)

pub returns-then-read-ne-IMAGE_SYM_ABSOLUTE : goal.returns-then-read-ne-IMAGE_SYM_ABSOLUTE
returns-then-read-ne-IMAGE_SYM_ABSOLUTE c =
    let b = c.args.b.now in
    unlike _ _ (λ e. c.if-read-ne-IMAGE_SYM_ABSOLUTE.true (ap (λ (s : Symbol). of_z w16 s.section_number) c.read.ensures ∙ ap (of_z w16) (weak-absolute b e)))

pub as_weak-requires : goal.as_weak-requires
as_weak-requires c = record { machine_value = c.requires.ordinary; target_value = c.text-target.ensures; alias_value = c.text-alias.ensures }

pub returns : goal.returns
returns c =
    c.as_weak.ensures ∙ ap (answer c.args.b.now) (weak-guessed _ c.requires.first c.text-target.ensures c.text-alias.ensures)
