-- `reader::read_null_thunk` meets its contract.
use mathlib.Core.Path.{ap, ◌∙◌}
use native.Mathlib.Omega.{arith}
use Rattle.wire.specs.Bytes.{holds}
use Rattle.wire.proofs.Bytes.{holds-inside}
use Rattle.reader.specs.Answers.{answer}
use Rattle.reader.proofs.Admitting.{clear-as}
use Rattle.reader.proofs.Guessing.{thunk-guessed, thunk-barred}
use Rattle.reader.proofs.read_null_thunk.Goals as goal

pub returns-then-name-lt-NULL_THUNK_DATA : goal.returns-then-name-lt-NULL_THUNK_DATA
returns-then-name-lt-NULL_THUNK_DATA c =
    thunk-barred _ c.requires.ordinary c.requires.first c.thunk_strings_at.ensures.0 c.text-name.ensures (omega arith)

pub as_null_thunk-requires : goal.as_null_thunk-requires
as_null_thunk-requires c = record { ordinary = c.requires.ordinary; clear = ap (holds 0) c.part.ensures ∙ holds-inside 0 _ _ _ (clear-as _ _ c.text-name.ensures) }

pub returns : goal.returns
returns c =
    c.as_null_thunk.ensures ∙ ap (answer c.args.b.now)
    (thunk-guessed _ c.requires.first c.thunk_strings_at.ensures.0 c.text-name.ensures c.part.ensures)
