use Rattle.std.proofs.Common.{sym, ◌∙◌}
use Rattle.lf_occupancy.specs.Views.{cell_box}
use Rattle.lf_occupancy.specs.Strips.{with_boxes}
use Rattle.lf_placement.specs.Steps.{working_boxes}
use Rattle.lf_placement.proofs.Marks.{at_work, is_nowhere, may_enter, none_holds, rooms_same, still_bare}
use Rattle.lf_placement.proofs.occupancy_sync.insert_absent.Goals as goal

pub returns-in_default-clause-holds : goal.returns-in_default-clause-holds
returns-in_default-clause-holds c = λ boxes out part holds.
    none_holds c.args.sized.now.frame.now c.args.sized.now.cells.now c.args.team c.args.own
    (cell_box (working_boxes c.args.sized.now.frame.now c.args.sized.now.cells.now c.args.team) c.args.own) c.args.occupancy.now boxes (sym c.cell_of.ensures ∙ c.in_default.is)
    part holds

pub returns-in_default-clause-rooms : goal.returns-in_default-clause-rooms
returns-in_default-clause-rooms c = rooms_same c.args.occupancy.now

pub returns-in_default-working_box-clause-holds : goal.returns-in_default-working_box-clause-holds
returns-in_default-working_box-clause-holds c = λ boxes out part holds.
    still_bare c.args.sized.now.frame.now c.args.sized.now.cells.now c.args.team c.args.own c.in-Some.id (sym c.in-Some.is ∙ c.cell_of.ensures) c.args.occupancy.now boxes
    (sym c.in_default-working_box.is ∙ c.working_box.ensures.is) part holds

pub insert-requires-clause-enter : goal.insert-requires-clause-enter
insert-requires-clause-enter c =
    may_enter c.args.sized.now.frame.now c.args.sized.now.cells.now c.args.team c.args.own c.in-Some.id (sym c.in-Some.is ∙ c.cell_of.ensures) c.in-Some-working_box.rect
    c.args.occupancy.now (sym c.in-Some-working_box.is ∙ c.working_box.ensures.is) c.requires

pub returns-clause-holds : goal.returns-clause-holds
returns-clause-holds c = λ boxes out part holds.
    let is = sym c.in-Some.is ∙ c.cell_of.ensures in
    let box = sym c.in-Some-working_box.is ∙ c.working_box.ensures.is in
    at_work c.args.sized.now.frame.now c.args.sized.now.cells.now c.args.team c.args.own c.in-Some.id is c.in-Some-working_box.rect c.insert.new.self boxes box
    (c.insert.ensures.holds boxes
    (is_nowhere c.args.sized.now.frame.now c.args.sized.now.cells.now c.args.team c.args.own c.in-Some.id is c.in-Some-working_box.rect (with_boxes c.args.occupancy.now boxes) box part
    out) holds)

pub returns-clause-rooms : goal.returns-clause-rooms
returns-clause-rooms c = record { index = c.insert.ensures.index; site = c.insert.ensures.site; rooms = c.insert.ensures.rooms }
