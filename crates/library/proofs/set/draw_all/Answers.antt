-- `library::set::draw_all` meets its contract.
use Rattle.format.proofs.Listed.{listed, dll-inside}
use Rattle.library.proofs.Resolving.{resolved-by}
use Rattle.library.proofs.MemberSets.{dll-small, all-room, all-drew}
use Rattle.library.proofs.set.draw_all.Goals as goal

pub dll-requires : goal.dll-requires
dll-requires c =
    let l = listed _ c.requires.b_value in record { header_size_in_bounds = l.shape.headed; dll_field_in_bounds = dll-inside _ l }

pub draw_members-requires : goal.draw_members-requires
draw_members-requires c = record { room = all-room _ _ c.first-first.ensures c.native-native.ensures c.dll.ensures c.requires.room; b_value = c.requires.b_value; dll_len_bound = dll-small _ c.requires.b_value c.dll.ensures; resolved_by = resolved-by _ c.first-first.ensures c.native-native.ensures c.requires.resolved_all }

pub returns : goal.returns
returns c =
    all-drew _ _ c.first-first.ensures c.native-native.ensures c.dll.ensures c.draw_members.ensures
