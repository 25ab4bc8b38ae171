-- `lists::record::Record::string` meets its contract.
use native.Mathlib.Omega.{arith}
use Rattle.lists.proofs.Records.{string-none, string-some}
use Rattle.lists.proofs.record.Record.string.Goals as goal

pub returns-then-offset-eq0 : goal.returns-then-offset-eq0
returns-then-offset-eq0 c =
    string-none _ _ (rw c.at.ensures at c.u32_at-len.ensures) (rw c.at.ensures at c.u32_at-offset.ensures) c.if-len-eq0.true c.if-offset-eq0.true

pub part-requires : goal.part-requires
part-requires c =
    omega (arith, c.args.self.held.strings c.args.f c.requires, rw c.at.ensures at c.u32_at-offset.ensures, rw c.at.ensures at c.u32_at-len.ensures)

pub returns : goal.returns
returns c =
    string-some _ _ (rw c.at.ensures at c.u32_at-len.ensures) (rw c.at.ensures at c.u32_at-offset.ensures) c.else-len-eq0.either c.u32_at.ensures c.part.ensures
