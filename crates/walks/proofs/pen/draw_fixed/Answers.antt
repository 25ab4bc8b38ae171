-- `walks::pen::draw_fixed` meets its contract.
use Rattle.members.proofs.Sizes.{stem-within}
use Rattle.walks.proofs.Pens.{fixed-first, fixed-second, fixed-third, drew-fixed}
use Rattle.walks.proofs.pen.draw_fixed.Goals as goal

pub draw_descriptor-a-requires : goal.draw_descriptor-a-requires
draw_descriptor-a-requires c = record { room = fixed-first _ _ _ _ c.requires.room c.requires.dll_len_bound.1; dll_len_bound = c.requires.dll_len_bound }

pub draw_null_descriptor-b-requires : goal.draw_null_descriptor-b-requires
draw_null_descriptor-b-requires c = record { room = fixed-second _ _ _ _ c.requires.room c.requires.dll_len_bound.1 c.draw_descriptor-a.ensures; stem_len_bound = stem-within _ c.requires.dll_len_bound.1 c.requires.dll_len_bound.0 }

pub draw_thunk-requires : goal.draw_thunk-requires
draw_thunk-requires c = record { room = fixed-third _ _ _ _ c.requires.room c.requires.dll_len_bound.1 c.draw_descriptor-a.ensures c.draw_null_descriptor-b.ensures; stem_len_bound = stem-within _ c.requires.dll_len_bound.1 c.requires.dll_len_bound.0 }

pub returns : goal.returns
returns c =
    drew-fixed _ _ _ _ c.requires.room c.requires.dll_len_bound.1 c.draw_descriptor-a.ensures c.draw_null_descriptor-b.ensures
    c.draw_thunk.ensures
