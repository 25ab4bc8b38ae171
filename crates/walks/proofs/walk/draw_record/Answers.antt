-- `walks::walk::draw_record` meets its contract.
use mathlib.Core.Path.{sym, ap, ◌∙◌}
use Rattle.walks.proofs.Pens.{room-as, drew-as, drew-none}
use native.Mathlib.Omega.{arith}
use lib.ListN.{length}
use mathlib.Core.Option.{some}
use Rattle.lists.proofs.Records.{absent-is, string-is, none-by}
use Rattle.names.proofs.Renamings.{name-some, name-none, name-few}
use Rattle.plans.proofs.Publics.{public-base, base-length}
use Rattle.walks.proofs.Records.{at-private, record-unnamed, record-by, record-11}
use Rattle.walks.proofs.walk.draw_record.Goals as goal

pub returns-then-is_none : goal.returns-then-is_none
returns-then-is_none c =
    drew-as (record-unnamed _ _ _ _ _ _ _ c.if-later.true (sym (none-by _ _ _ _ c.import_name.ensures c.is_none.ensures) ∙ c.if-is_none.true)) (drew-none _ _ _)

pub returns-then-is_private : goal.returns-then-is_private
returns-then-is_private c = drew-as (at-private _ _ _ (sym c.is_private.ensures ∙ c.if-is_private.true)) (drew-none _ _ _)

pub draw_named-requires : goal.draw_named-requires
draw_named-requires c = record { room = room-as (sym (record-by c.args.later _ _ _ _ _ _ (sym c.is_private.ensures ∙ c.if-is_private.false) _ (public-base _ _ (absent-is _ _ c.ext_name.ensures c.in_default.is) ∙ ap some (sym c.base.ensures)))) c.requires.room; b_value = c.requires.b_value; from_le_k = c.requires.from_le_k; dll_len_bound = (c.requires.dll_len_bound, omega (arith, ap length c.base.ensures, base-length _ _ c.args.r.held)); resolved = c.requires.resolved }

pub returns-in_default : goal.returns-in_default
returns-in_default c =
    drew-as
    (record-by c.args.later _ _ _ _ _ _ (sym c.is_private.ensures ∙ c.if-is_private.false) _ (public-base _ _ (absent-is _ _ c.ext_name.ensures c.in_default.is) ∙ ap some (sym c.base.ensures)))
    c.draw_named.ensures

pub renamed-requires : goal.renamed-requires
renamed-requires c = string-is _ _ c.ext_name.ensures c.in-Some.is

pub returns-in_default-renamed : goal.returns-in_default-renamed
returns-in_default-renamed c =
    drew-as
    (record-11 c.args.later _ _ _ _ _ _ (sym c.is_private.ensures ∙ c.if-is_private.false) (name-none c.renamed.ensures c.in_default-renamed.is))
    (drew-none _ _ _)

pub draw_named-requires-2 : goal.draw_named-requires-2
draw_named-requires-2 c = record { room = room-as (sym (record-by c.args.later _ _ _ _ _ _ (sym c.is_private.ensures ∙ c.if-is_private.false) _ (name-some c.renamed.ensures c.in-Some-renamed.is c.as_slice.ensures.bytes))) c.requires.room; b_value = c.requires.b_value; from_le_k = c.requires.from_le_k; dll_len_bound = (c.requires.dll_len_bound, omega (arith, c.as_slice.ensures.len, name-few c.renamed.ensures c.in-Some-renamed.is)); resolved = c.requires.resolved }

pub returns : goal.returns
returns c =
    drew-as
    (record-by c.args.later _ _ _ _ _ _ (sym c.is_private.ensures ∙ c.if-is_private.false) _ (name-some c.renamed.ensures c.in-Some-renamed.is c.as_slice.ensures.bytes))
    c.draw_named-2.ensures
