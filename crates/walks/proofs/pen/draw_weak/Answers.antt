-- `walks::pen::draw_weak` meets its contract.
use Rattle.walks.proofs.Pens.{room-one, drew-noted, drew-empty}
use Rattle.walks.proofs.pen.draw_weak.Goals as goal

pub moved-requires : goal.moved-requires
moved-requires c =
    room-one c.requires.room (c.weak_size-size.ensures _)

pub returns-then-out-eq0 : goal.returns-then-out-eq0
returns-then-out-eq0 c =
    drew-empty _ (c.weak_size-size.ensures _) c.if-out-eq0.true c.moved.ensures.0 c.moved.ensures.1

pub noted-requires : goal.noted-requires
noted-requires c =
    room-one c.requires.room (c.weak_size-size.ensures _)

pub returns : goal.returns
returns c =
    drew-noted _ (c.weak_size-size.ensures _) c.at_of-at.ensures c.create_weak_external.ensures c.noted.ensures
