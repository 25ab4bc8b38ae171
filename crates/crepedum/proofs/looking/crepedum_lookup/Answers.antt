-- `crepedum::looking::crepedum_lookup` meets its contract.
use mathlib.Core.Path.{sym, ◌∙◌}
use native.Mathlib.Omega.{arith}
use Rattle.crepedum.proofs.Finding.{few-fields, too-long, looked-by, looked-refused, shorts-looked}
use borrow.Author.Rules.{rules}
use Rattle.crepedum.proofs.looking.crepedum_lookup.Goals as goal

pub returns-then-fields-lt-FIELDS : goal.returns-then-fields-lt-FIELDS
returns-then-fields-lt-FIELDS c = rw c.reason_word.ensures (few-fields _ _ (omega (arith, c.if-fields-lt-FIELDS.true)))

pub returns-then-set-ge-TOO_LONG : goal.returns-then-set-ge-TOO_LONG
returns-then-set-ge-TOO_LONG c =
    rw c.reason_word-then-set-ge-TOO_LONG.ensures (too-long _ _ _ c.args.fields.now (omega (arith, c.if-fields-lt-FIELDS.false)) (omega (arith, c.if-set-ge-TOO_LONG.true)))

pub put_looked-requires : goal.put_looked-requires
put_looked-requires c = record { looked_count_in_bounds = search rules; short_looked = shorts-looked c.args.set.now _ _ (sym c.lookup.ensures ∙ c.in-Ok.is) (omega (arith, c.if-set-ge-TOO_LONG.false)) }

pub returns-in-Ok : goal.returns-in-Ok
returns-in-Ok c =
    looked-by c.args.set.now _ _ c.args.fields.now (omega (arith, c.if-fields-lt-FIELDS.false)) (omega (arith, c.if-set-ge-TOO_LONG.false))
    (sym c.lookup.ensures ∙ c.in-Ok.is) c.put_looked.ensures

pub returns-in-Err : goal.returns-in-Err
returns-in-Err c =
    looked-refused c.args.set.now _ _ c.args.fields.now (omega (arith, c.if-fields-lt-FIELDS.false)) (omega (arith, c.if-set-ge-TOO_LONG.false))
    (sym c.lookup.ensures ∙ c.in-Err.is) c.reason_word-in-Err.ensures
