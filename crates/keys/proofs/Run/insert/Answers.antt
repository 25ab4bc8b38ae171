-- `keys::Run::insert` meets its contract.
use Rattle.std.specs.Prelude.{Some}
use Rattle.std.proofs.Common.{sym, refl, ap, ◌∙◌, arith}
use Rattle.format.specs.Exports.{both_counts}
use Rattle.lists.proofs.Records.{held}
use Rattle.keys.proofs.Keyed.{key-one}
use Rattle.keys.proofs.Slots.{room-left, stopped, unstopped, insert-by, within-by}
use Rattle.keys.proofs.Run.insert.Goals as goal

pub seek-requires : goal.seek-requires
seek-requires c =
    let g = c.requires.from_le_k in
    record { in_bounds = c.requires.in_bounds; within = within-by _ _ c.args.k (both_counts c.args.self.now.list.now) _ g.0 (omega (arith, g.1)) c.requires.entered; h_value = c.hash-h.ensures }

pub put-requires : goal.put-requires
put-requires c =
    let stop = stopped _ _ _ (sym (c.in-Some-Free.is ∙ ap Some c.in-Some-Free.field-0-is) ∙ c.seek.ensures) refl in
    omega (arith, stop.at, c.requires.in_bounds)

pub put-requires-in-Some-Used : goal.put-requires-in-Some-Used
put-requires-in-Some-Used c =
    let stop = stopped _ _ _ (sym (c.in-Some-Used.is ∙ ap Some c.in-Some-Used.field-0-is) ∙ c.seek.ensures) refl in
    omega (arith, stop.at, c.requires.in_bounds)

pub returns-in-Some-Free : goal.returns-in-Some-Free
returns-in-Some-Free c =
    let stop = stopped _ _ _ (sym (c.in-Some-Free.is ∙ ap Some c.in-Some-Free.field-0-is) ∙ c.seek.ensures) refl in
    insert-by _ (key-one _ _ _) _ _ c.args.slots.now _ _ c.hash-h.ensures stop c.requires.in_bounds c.holding.ensures c.put.ensures c.requires.from_le_k.0 c.requires.k_value c.requires.entered

pub returns-in-Some-Used : goal.returns-in-Some-Used
returns-in-Some-Used c =
    let stop = stopped _ _ _ (sym (c.in-Some-Used.is ∙ ap Some c.in-Some-Used.field-0-is) ∙ c.seek.ensures) refl in
    insert-by _ (key-one _ _ _) _ _ c.args.slots.now _ _ c.hash-h.ensures stop c.requires.in_bounds c.holding-last.ensures c.put-in-Some-Used.ensures c.requires.from_le_k.0 c.requires.k_value c.requires.entered

pub returns-in-None : goal.returns-in-None
returns-in-None c =
    absurd (room-left _ _ _ _ _ c.requires.entered (omega (arith, (held _ _ c.args.self.now.checked c.requires.from_le_k.1).counted)) (unstopped _ _ _ (sym c.in-None.is ∙ c.seek.ensures)))
