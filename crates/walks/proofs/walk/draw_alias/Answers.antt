-- `walks::walk::draw_alias` meets its contract.
use mathlib.Core.Path.{sym}
use Rattle.walks.proofs.Pens.{room-as, drew-as}
use Rattle.walks.proofs.Imports.{code-first, code-next, code-drew, alias-other}
use Rattle.walks.proofs.walk.draw_alias.Goals as goal

pub draw_weak-next-requires : goal.draw_weak-next-requires
draw_weak-next-requires c = record { room = code-first _ _ _ c.number.ensures c.if-number-eq0.true c.requires.room; sym_len_bound = c.requires.target_len_bound }

pub draw_weak-requires : goal.draw_weak-requires
draw_weak-requires c = record { room = code-next _ _ _ c.number.ensures c.if-number-eq0.true c.requires.room c.draw_weak-next.ensures; sym_len_bound = c.requires.target_len_bound }

pub returns-then-number-eq0 : goal.returns-then-number-eq0
returns-then-number-eq0 c =
    code-drew _ _ _ c.number.ensures c.if-number-eq0.true c.requires.room c.draw_weak-next.ensures c.draw_weak.ensures

pub draw_weak-requires-2 : goal.draw_weak-requires-2
draw_weak-requires-2 c = record { room = room-as (sym (alias-other _ _ _ c.number.ensures c.if-number-eq0.false)) c.requires.room; sym_len_bound = c.requires.target_len_bound }

pub returns : goal.returns
returns c =
    drew-as (alias-other _ _ _ c.number.ensures c.if-number-eq0.false) c.draw_weak-2.ensures
