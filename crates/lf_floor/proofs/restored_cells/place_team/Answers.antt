use Rattle.std.proofs.Common.{List, map, ap, ◌∙◌}
use Rattle.lf_cells.specs.declared.cell.Cell.{Cell}
use Rattle.lf_cells.specs.Cells.{cells_of}
use Rattle.lf_placement.specs.Placements.{committed_of, working_places_of}
use Rattle.lf_floor.specs.Saved.{fixed_part}
use Rattle.lf_floor.proofs.KeepingDesign.{committed_fixed}
use Rattle.lf_floor.proofs.Placed.{cells_restored, committed_now, committed_same, fixed_same, places_committed}
use Rattle.lf_floor.proofs.restored_cells.place_team.Goals as goal

pub working_are_in_place-requires : goal.working_are_in_place-requires
working_are_in_place-requires c =
    ap (λ (cs : List Cell). working_places_of cs) c.commit.ensures.own
    ∙ places_committed (cells_of c.committed_are_in_place.new.cells c.args.team)
    ∙ c.committed_are_in_place.ensures.places

pub returns-clause-own : goal.returns-clause-own
returns-clause-own c =
    let k = c.args.team in
    let old = cells_of c.args.cells.now k in
    let original_place = cells_of c.committed_are_in_place.new.cells k in
    let mid = cells_of c.commit.new.cells k in
    let new = cells_of c.working_are_in_place.new.cells k in
    cells_restored old new c.args.saved.now
    (fixed_same mid new c.working_are_in_place.ensures.same
    ∙ ap (λ (cs : List Cell). map fixed_part cs) c.commit.ensures.own
    ∙ committed_fixed original_place
    ∙ fixed_same old original_place c.committed_are_in_place.ensures.same)
    c.working_are_in_place.ensures.places
    (committed_same mid new c.working_are_in_place.ensures.same
    ∙ ap (λ (cs : List Cell). committed_of cs) c.commit.ensures.own
    ∙ committed_now original_place
    ∙ c.committed_are_in_place.ensures.places)
