use Rattle.std.proofs.Common.{sym, refl, ◌∙◌, arith}
use Rattle.lists.proofs.Records.{held, absent-by, there-by}
use Rattle.keys.proofs.Targets.{wanted-here, wanted-later, wanted-end}
use Rattle.keys.proofs.has_wanted.Goals as goal

pub loop-k-init : goal.loop-k-init
loop-k-init c = refl

pub invariant_of-r : goal.invariant_of-r
invariant_of-r c = record { held = held _ _ c.requires.b_value (omega (arith, c.loop-k-test.true, c.requires.from_le_to.1)) }

pub returns-then-is_some : goal.returns-then-is_some
returns-then-is_some c =
    wanted-here _ c.loop-k.k _ c.loop-k-test.true (there-by _ _ _ c.import_name.ensures (sym c.is_some.ensures ∙ c.if-is_some.true)) ∙ c.loop-k.invariant

pub loop-k-preserved : goal.loop-k-preserved
loop-k-preserved c =
    sym (wanted-later _ c.loop-k.k _ c.loop-k-test.true (absent-by _ _ _ c.import_name.ensures (sym c.is_some.ensures ∙ c.if-is_some.false))) ∙ c.loop-k.invariant

pub returns : goal.returns
returns c =
    wanted-end _ c.loop-k.k _ (omega (arith, c.loop-k-test.false)) ∙ c.loop-k.invariant
