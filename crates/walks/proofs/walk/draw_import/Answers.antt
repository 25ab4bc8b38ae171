-- `walks::walk::draw_import` meets its contract.
use mathlib.Core.Path.{sym}
use Rattle.walks.proofs.Pens.{room-as, drew-as}
use Rattle.walks.proofs.Imports.{import-by}
use Rattle.walks.proofs.walk.draw_import.Goals as goal

pub draw_short-requires : goal.draw_short-requires
draw_short-requires c = record { room = room-as (sym (import-by _ _ _ _ _ _ c.ordinal-ordinal.ensures c.import_type-import_type.ensures)) c.requires.room; sym_len_bound = c.requires.sym_len_bound }

pub returns : goal.returns
returns c =
    drew-as (import-by _ _ _ _ _ _ c.ordinal-ordinal.ensures c.import_type-import_type.ensures) c.draw_short.ensures
