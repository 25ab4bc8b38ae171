-- `lists::record::Record::import_type` meets its contract.
use Rattle.format.specs.Plan.{kind}
use Rattle.lists.proofs.Records.{bit-set, bit-clear}
use Rattle.lists.proofs.record.Record.import_type.Goals as goal

pub returns-then-flags-ne0 : goal.returns-then-flags-ne0
unfolding kind
returns-then-flags-ne0 c = rw (← c.flags-flags.ensures, bit-set _ 3 c.if-flags-ne0.true)

pub returns-then-flags-ne0-2 : goal.returns-then-flags-ne0-2
unfolding kind
returns-then-flags-ne0-2 c =
    rw (← c.flags-flags.ensures, bit-clear _ 3 c.if-flags-ne0.false, bit-set _ 1 c.if-flags-ne0-2.true)

pub returns : goal.returns
unfolding kind
returns c =
    rw (← c.flags-flags.ensures, bit-clear _ 3 c.if-flags-ne0.false, bit-clear _ 1 c.if-flags-ne0-2.false)
