use Rattle.std.proofs.Common.{Some, None, subst}
use Rattle.lf_occupancy.specs.Strips.{MarksBoxes}
use Rattle.lf_placement.specs.Steps.{KeepsStripRooms, box_set}
use Rattle.lf_placement.proofs.Marks.{can_enter, can_leave, out_nowhere, rooms_through, set_twice}
use Rattle.lf_placement.proofs.occupancy_sync.replace_box.Goals as goal

pub remove-requires : goal.remove-requires
remove-requires c = can_leave c.args.occupancy.now c.args.id c.args.rect.now c.requires.may

pub insert-requires-clause-enter : goal.insert-requires-clause-enter
insert-requires-clause-enter c =
    let may = c.requires.may in
    can_enter c.args.occupancy.now c.remove.new.self c.args.id c.args.rect.now
    record { index = c.remove.ensures.index; site = c.remove.ensures.site; rooms = c.remove.ensures.rooms } may
    (c.remove.ensures.holds may.boxes may.is.at may.holds)

pub returns-clause-holds : goal.returns-clause-holds
returns-clause-holds c = λ boxes at holds.
    let id = c.args.id in
    let rect = c.args.rect.now in
    subst (MarksBoxes c.insert.new.self) (set_twice boxes id None (Some rect) at.known.team)
    (c.insert.ensures.holds (box_set boxes id.team id.own None) (out_nowhere boxes id rect at) (c.remove.ensures.holds boxes at holds))

pub returns-clause-rooms : goal.returns-clause-rooms
returns-clause-rooms c =
    let first : KeepsStripRooms c.args.occupancy.now c.remove.new.self =
    record { index = c.remove.ensures.index; site = c.remove.ensures.site; rooms = c.remove.ensures.rooms } in
    let second : KeepsStripRooms c.remove.new.self c.insert.new.self =
    record { index = c.insert.ensures.index; site = c.insert.ensures.site; rooms = c.insert.ensures.rooms } in
    rooms_through c.args.occupancy.now c.remove.new.self c.insert.new.self first second
