use Rattle.std.proofs.Common.{None, sym, ◌∙◌}
use Rattle.lf_occupancy.specs.Strips.{with_boxes}
use Rattle.lf_placement.proofs.Marks.{at_place, bare_holds, is_at, none_holds, rooms_same}
use Rattle.lf_placement.proofs.occupancy_sync.remove_cell.Goals as goal

pub returns-in_default-clause-holds : goal.returns-in_default-clause-holds
returns-in_default-clause-holds c = λ boxes part holds.
    none_holds c.args.sized.now.frame.now c.args.sized.now.cells.now c.args.team c.args.own None c.args.occupancy.now boxes (sym c.cell_of.ensures ∙ c.in_default.is) part holds

pub returns-in_default-clause-rooms : goal.returns-in_default-clause-rooms
returns-in_default-clause-rooms c = rooms_same c.args.occupancy.now

pub returns-in_default-working_box-clause-holds : goal.returns-in_default-working_box-clause-holds
returns-in_default-working_box-clause-holds c = λ boxes part holds.
    bare_holds c.args.sized.now.frame.now c.args.sized.now.cells.now c.args.team c.args.own c.in-Some.id (sym c.in-Some.is ∙ c.cell_of.ensures) c.args.occupancy.now boxes
    (sym c.in_default-working_box.is ∙ c.working_box.ensures.is) part holds

pub remove-requires : goal.remove-requires
remove-requires c =
    let part = c.requires in
    let is = sym c.in-Some.is ∙ c.cell_of.ensures in
    record {
      boxes = part.boxes;
      holds = part.holds;
      is = is_at c.args.sized.now.frame.now c.args.sized.now.cells.now c.args.team c.args.own c.in-Some.id is c.in-Some-working_box.rect (with_boxes c.args.occupancy.now part.boxes)
          (sym c.in-Some-working_box.is ∙ c.working_box.ensures.is) part.is;
    }

pub returns-clause-holds : goal.returns-clause-holds
returns-clause-holds c = λ boxes part holds.
    let is = sym c.in-Some.is ∙ c.cell_of.ensures in
    let box = sym c.in-Some-working_box.is ∙ c.working_box.ensures.is in
    at_place c.args.sized.now.frame.now c.args.sized.now.cells.now c.args.team c.args.own c.in-Some.id is c.remove.new.self boxes None
    (c.remove.ensures.holds boxes
    (is_at c.args.sized.now.frame.now c.args.sized.now.cells.now c.args.team c.args.own c.in-Some.id is c.in-Some-working_box.rect (with_boxes c.args.occupancy.now boxes) box part) holds)
