-- `reader::read_null_descriptor` meets its contract.
use mathlib.Core.Path.{sym, ap, ◌∙◌}
use native.Mathlib.Omega.{arith}
use Rattle.wire.specs.Bytes.{holds}
use Rattle.wire.proofs.Bytes.{holds-inside}
use Rattle.reader.specs.Answers.{answer}
use Rattle.reader.proofs.Admitting.{clear-as}
use Rattle.reader.proofs.Guessing.{null-plain-guessed, null-of-guessed, null-barred, part-rest}
use Rattle.reader.proofs.read_null_descriptor.Goals as goal

pub returns-then-same : goal.returns-then-same
returns-then-same c =
    c.as_null_descriptor.ensures ∙ ap (answer c.args.b.now)
    (null-plain-guessed _ c.requires.first c.text-name.ensures (sym c.same.ensures ∙ c.if-same.true))

pub returns-then-name-prefix : goal.returns-then-name-prefix
returns-then-name-prefix c =
    null-barred _ c.requires.ordinary c.requires.first c.text-name.ensures (sym c.same.ensures ∙ c.if-same.false)
    (omega arith)

pub as_null_descriptor_of-requires : goal.as_null_descriptor_of-requires
as_null_descriptor_of-requires c = record { ordinary = c.requires.ordinary; clear = ap (holds 0) c.part.ensures ∙ holds-inside 0 _ _ _ (clear-as _ _ c.text-name.ensures) }

pub returns : goal.returns
returns c =
    c.as_null_descriptor_of.ensures ∙ ap (answer c.args.b.now)
    (null-of-guessed _ c.requires.first c.text-name.ensures (sym c.same.ensures ∙ c.if-same.false) (c.part.ensures ∙ part-rest _ 25 (omega arith)))
