-- `lookup::MemberList::answer` meets its contract.
use Rattle.std.specs.Prelude.{Some}
use Prim.Native.Nat.{◌-◌}
use mathlib.Core.Path.{ap, ◌∙◌}
use Rattle.format.specs.declared.Looked.TheVariants.{NotFound}
use Rattle.lookup.specs.Numbered.{step_from}
use Rattle.lookup.proofs.Numbering.{led-at}
use Rattle.lookup.proofs.MemberList.answer.Goals as goal

pub returns-in-Some-Answer : goal.returns-in-Some-Answer
returns-in-Some-Answer c =
    led-at _ _ _ c.leading.ensures (c.in-Some-Answer.is ∙ ap Some c.in-Some-Answer.field-0-is) NotFound (step_from c.args.self.set.bytes.now c.args.self.from (c.args.self.to - c.args.self.from))

pub returns-in-Some-Target : goal.returns-in-Some-Target
returns-in-Some-Target c =
    c.follow.ensures
    ∙ led-at _ _ _ c.leading.ensures (c.in-Some-Target.is ∙ ap Some c.in-Some-Target.field-0-is) NotFound (step_from c.args.self.set.bytes.now c.args.self.from (c.args.self.to - c.args.self.from))

pub returns-in-None : goal.returns-in-None
returns-in-None c =
    led-at _ _ _ c.leading.ensures c.in-None.is NotFound (step_from c.args.self.set.bytes.now c.args.self.from (c.args.self.to - c.args.self.from))
