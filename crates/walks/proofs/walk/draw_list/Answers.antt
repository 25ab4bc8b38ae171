-- `walks::walk::draw_list` meets its contract.
use Rattle.walks.proofs.Records.{list-first, list-next, list-drew}
use Rattle.walks.proofs.walk.draw_list.Goals as goal

pub draw_pass-next-requires : goal.draw_pass-next-requires
draw_pass-next-requires c = record { room = list-first _ _ _ _ _ _ c.requires.room; b_value = c.requires.b_value; from_le_to = c.requires.from_le_to; dll_len_bound = c.requires.dll_len_bound; resolved = c.requires.resolved }

pub draw_pass-requires : goal.draw_pass-requires
draw_pass-requires c = record { room = list-next _ _ _ _ _ _ c.requires.room c.draw_pass-next.ensures; b_value = c.requires.b_value; from_le_to = c.requires.from_le_to; dll_len_bound = c.requires.dll_len_bound; resolved = c.requires.resolved }

pub returns : goal.returns
returns c =
    list-drew _ _ _ _ _ _ c.requires.room c.draw_pass-next.ensures c.draw_pass.ensures
