-- `library::set::measure` meets its contract.
use Rattle.wire.proofs.Parts.{octets}
use Rattle.laws.proofs.Accepted.{list-accepted}
use Rattle.library.proofs.MemberSets.{far-room, room-at, all-at, drew-nothing}
use Rattle.library.proofs.set.measure.Goals as goal

pub draw_all-requires : goal.draw_all-requires
draw_all-requires c = record { room = room-at c.pen_at-pen.ensures.0 c.pen_at-pen.ensures.1 (far-room _ _ (octets _ c.type_inv.b) c.requires.b_value); b_value = list-accepted _ _ c.requires.b_value; resolved_all = c.requires.resolved_all }

pub returns : goal.returns
returns c =
    let d = all-at c.pen_at-pen.ensures.0 c.pen_at-pen.ensures.1 c.draw_all.ensures in
    (drew-nothing c.requires.none_len d, record { entries = d.drew.entries; bytes = d.drew.next; first_count = d.first_count; native_count = d.native_count })
