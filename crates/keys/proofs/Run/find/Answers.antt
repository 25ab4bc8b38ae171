-- `keys::Run::find` meets its contract.
use Rattle.std.specs.Prelude.{Some}
use Rattle.std.proofs.Common.{sym, ap, ◌∙◌, arith}
use Rattle.format.specs.Exports.{both_counts}
use Rattle.lists.proofs.Records.{held}
use Rattle.keys.specs.Targets.{target_of}
use Rattle.keys.proofs.Keyed.{key-one}
use Rattle.keys.proofs.Slots.{found-last, found-old, within-by}
use Rattle.keys.proofs.Run.find.Goals as goal

pub seek-requires : goal.seek-requires
seek-requires c =
    let g = c.args.self.now.within in
    record { in_bounds = c.requires.in_bounds; within = within-by _ _ c.args.self.now.to (both_counts c.args.self.now.list.now) _ g.0 g.1 c.requires.entered; h_value = c.hash-h.ensures }

pub overflow_cast-result : goal.overflow_cast-result
overflow_cast-result c =
    let old = found-old _ (key-one _ _ _) _ _ _ c.requires.entered _ (sym (c.in-Some-Used.is ∙ ap Some c.in-Some-Used.field-0-is) ∙ c.seek.ensures) in
    omega (arith, (held _ c.in-Some-Used.k c.args.self.now.checked (omega (arith, old, c.args.self.now.within.0, c.args.self.now.within.1))).counted)

pub returns-in-Some-Free : goal.returns-in-Some-Free
unfolding target_of
returns-in-Some-Free c =
    ap target_of (found-last _ (key-one _ _ _) _ _ _ c.requires.entered _ (sym (c.in-Some-Free.is ∙ ap Some c.in-Some-Free.field-0-is) ∙ c.seek.ensures))

pub returns-in-Some-Used : goal.returns-in-Some-Used
unfolding target_of
returns-in-Some-Used c =
    ap target_of (found-last _ (key-one _ _ _) _ _ _ c.requires.entered _ (sym (c.in-Some-Used.is ∙ ap Some c.in-Some-Used.field-0-is) ∙ c.seek.ensures))

pub returns-in-None : goal.returns-in-None
unfolding target_of
returns-in-None c =
    ap target_of (found-last _ (key-one _ _ _) _ _ _ c.requires.entered _ (sym c.in-None.is ∙ c.seek.ensures))
