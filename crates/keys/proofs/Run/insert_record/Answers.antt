-- `keys::Run::insert_record` meets its contract.
use Rattle.std.proofs.Common.{sym, ap, ◌∙◌}
use mathlib.Core.Option.{some}
use Rattle.lists.proofs.Records.{held, absent-is, string-is}
use Rattle.names.proofs.Renamings.{name-some, name-none}
use Rattle.plans.proofs.Publics.{public-base}
use Rattle.plans.proofs.Answering.{key-private, key-by, key-11}
use Rattle.keys.proofs.Slots.{skip-by}
use Rattle.keys.proofs.Run.insert_record.Goals as goal

pub invariant_of-r : goal.invariant_of-r
invariant_of-r c = record { held = held _ _ c.args.self.now.checked c.requires.from_le_k.1 }

pub returns-then-is_private : goal.returns-then-is_private
returns-then-is_private c =
    skip-by _ _ _ _ c.requires.from_le_k.0 c.requires.entered (λ w. sym (key-private _ _ _ w _ (sym c.is_private.ensures ∙ c.if-is_private.true)))

pub insert_named-requires : goal.insert_named-requires
insert_named-requires c =
    let public = public-base _ _ (absent-is _ _ c.ext_name.ensures c.in_default.is) ∙ ap some (sym c.base.ensures) in
    record { in_bounds = c.requires.in_bounds; entered = c.requires.entered; from_le_k = c.requires.from_le_k; public_value = λ w. key-by _ _ _ w _ _ (sym c.is_private.ensures ∙ c.if-is_private.false) public }

pub renamed-requires : goal.renamed-requires
renamed-requires c = string-is _ _ c.ext_name.ensures c.in-Some.is

pub returns-in_default-renamed : goal.returns-in_default-renamed
returns-in_default-renamed c =
    skip-by _ _ _ _ c.requires.from_le_k.0 c.requires.entered
    (λ w. sym (key-11 _ _ _ w _ (sym c.is_private.ensures ∙ c.if-is_private.false) (name-none c.renamed.ensures c.in_default-renamed.is)))

pub insert_named-requires-2 : goal.insert_named-requires-2
insert_named-requires-2 c =
    let given = name-some c.renamed.ensures c.in-Some-renamed.is c.as_slice.ensures.bytes in
    record { in_bounds = c.requires.in_bounds; entered = c.requires.entered; from_le_k = c.requires.from_le_k; public_value = λ w. key-by _ _ _ w _ _ (sym c.is_private.ensures ∙ c.if-is_private.false) given }
