-- `crepedum::reading::crepedum_read` meets its contract.
use mathlib.Core.Path.{sym, ◌∙◌}
use native.Mathlib.Omega.{arith}
use Rattle.crepedum.proofs.Fields.{few, read-enough, read-refused, shorts}
use borrow.Author.Rules.{rules}
use Rattle.crepedum.proofs.reading.crepedum_read.Goals as goal

pub returns-then-fields-lt-FIELDS : goal.returns-then-fields-lt-FIELDS
returns-then-fields-lt-FIELDS c = rw c.reason_word.ensures (few _ _ (omega (arith, c.if-fields-lt-FIELDS.true)))

pub put_read-requires : goal.put_read-requires
put_read-requires c = record { field_count_in_bounds = search rules; shorts = shorts c.args.member.now (sym c.read.ensures ∙ c.in-Ok.is) }

pub returns-in-Ok : goal.returns-in-Ok
returns-in-Ok c =
    read-enough _ c.args.fields.now (omega arith) (sym c.read.ensures ∙ c.in-Ok.is) c.put_read.ensures

pub returns-in-Err : goal.returns-in-Err
returns-in-Err c =
    read-refused _ c.args.fields.now (omega arith) (sym c.read.ensures ∙ c.in-Err.is) c.reason_word-in-Err.ensures
