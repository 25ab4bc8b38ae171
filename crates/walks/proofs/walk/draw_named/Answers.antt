-- `walks::walk::draw_named` meets its contract.
use mathlib.Core.Path.{sym, ap, ◌∙◌}
use native.Mathlib.Omega.{arith}
use Rattle.std.specs.Prelude.{Ok}
use Rattle.plans.specs.Shape.{planned}
use Rattle.walks.proofs.Pens.{room-as, drew-as, drew-none}
use Rattle.walks.proofs.Records.{direct-later, direct-room, direct-drew, short-later, short-now, deferred-now, deferred-later, refused-either, deferred-native, deferred-wanted}
use Rattle.walks.proofs.walk.draw_named.Goals as goal

pub returns-then-later : goal.returns-then-later
returns-then-later c =
    drew-as (direct-later _ _ _ _ _ _ (sym c.is_direct.ensures ∙ c.if-is_direct.true) c.if-later.true) (drew-none _ _ _)

pub draw_import-requires : goal.draw_import-requires
draw_import-requires c = record { room = direct-room _ _ _ _ _ _ (sym c.is_direct.ensures ∙ c.if-is_direct.true) c.if-later.false c.requires.room; sym_len_bound = ((omega (arith, c.requires.dll_len_bound), omega (arith, c.requires.dll_len_bound)), (omega arith, omega arith)) }

pub returns-then-is_direct : goal.returns-then-is_direct
returns-then-is_direct c =
    direct-drew _ _ _ _ _ _ (sym c.is_direct.ensures ∙ c.if-is_direct.true) c.if-later.false c.if-out-eq0.true c.draw_import.ensures

pub returns-then-later-2 : goal.returns-then-later-2
returns-then-later-2 c =
    drew-as (short-later _ _ c.args.later _ _ _ _ _ (ap (planned _ _) (sym (c.in-Ok-Some.is ∙ ap Ok c.in-Ok-Some.field-0-is)) ∙ c.plan.ensures) c.if-later-2.true)
    (drew-none _ _ _)

pub draw_final-requires : goal.draw_final-requires
draw_final-requires c = record { room = room-as (sym (short-now _ _ c.args.later _ _ _ _ _ (ap (planned _ _) (sym (c.in-Ok-Some.is ∙ ap Ok c.in-Ok-Some.field-0-is)) ∙ c.plan.ensures) c.if-later-2.false)) c.requires.room; dll_len_bound = c.requires.dll_len_bound }

pub returns-then-not-later : goal.returns-then-not-later
returns-then-not-later c =
    drew-as (deferred-now _ _ c.args.later _ _ _ _ (ap (planned _ _) (sym (c.in-Ok-None.is ∙ ap Ok c.in-Ok-None.field-0-is)) ∙ c.plan.ensures) (c.if-not-later.true))
    (drew-none _ _ _)

pub draw_deferred-requires : goal.draw_deferred-requires
draw_deferred-requires c =
    let later = ap (planned _ _) (sym (c.in-Ok-None.is ∙ ap Ok c.in-Ok-None.field-0-is)) ∙ c.plan.ensures in
    let native = deferred-native _ _ _ _ later in
    record { room = room-as (sym (deferred-later _ _ c.args.later _ _ _ _ _ later (c.if-not-later.false))) c.requires.room; b_value = c.requires.b_value; not_arm64ec = native; from_le_k = c.requires.from_le_k; dll_len_bound = c.requires.dll_len_bound; resolved = c.requires.resolved native; k_value = deferred-wanted _ _ _ _ _ later }

pub returns-else-later-2 : goal.returns-else-later-2
returns-else-later-2 c =
    drew-as (short-now _ _ c.args.later _ _ _ _ _ (ap (planned _ _) (sym (c.in-Ok-Some.is ∙ ap Ok c.in-Ok-Some.field-0-is)) ∙ c.plan.ensures) c.if-later-2.false)
    c.draw_final.ensures

pub returns-else-not-later : goal.returns-else-not-later
returns-else-not-later c =
    drew-as (deferred-later _ _ c.args.later _ _ _ _ _ (ap (planned _ _) (sym (c.in-Ok-None.is ∙ ap Ok c.in-Ok-None.field-0-is)) ∙ c.plan.ensures) (c.if-not-later.false))
    c.draw_deferred.ensures

pub returns-in-Err : goal.returns-in-Err
returns-in-Err c =
    drew-as (refused-either _ _ c.args.later _ _ _ _ _ (ap (planned _ _) (sym c.in-Err.is) ∙ c.plan.ensures)) (drew-none _ _ _)
