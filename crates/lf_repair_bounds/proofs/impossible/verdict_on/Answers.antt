use Rattle.std.proofs.Common.{Option, subst}
use Rattle.std.specs.Prelude.{option_map}
use Rattle.lf_floorplan.specs.declared.place.Place.{Place}
use Rattle.lf_floorplan.specs.LoadedCells.{borrowed_cell}
use Rattle.lf_rules.specs.Choice.{IsChoice, spot_of}
use Rattle.lf_repair_bounds.specs.MinDisplacements.{query_alone}
use Rattle.lf_repair_bounds.proofs.Copying.{cell_twin}
use Rattle.lf_repair_bounds.proofs.SameRules.{none_on_copy, one_on_copy}
use Rattle.lf_repair_bounds.proofs.impossible.verdict_on.Goals as goal

pub invariant_of-lone : goal.invariant_of-lone
invariant_of-lone c =
    let floor = c.args.floor.now in
    record {
      of_frame = floor.of_frame;
      known = cell_twin floor.loaded.now.frame floor.hard.now (borrowed_cell c.args.cell.now) floor.copies c.requires.known;
    }

pub returns-in-Some : goal.returns-in-Some
returns-in-Some c =
    let floor = c.args.floor.now in
    let cell = c.args.cell.now in
    let best = subst (λ (o : Option Place). IsChoice (query_alone floor.hard.now (borrowed_cell cell)) c.anchor-target.result (option_map spot_of o)) c.in-Some.is (c.in_ok-found.ensures {u = tt}) in
    one_on_copy floor.loaded.now.frame floor.hard.now cell.team cell.mac (spot_of c.in-Some._best) floor.copies best.may_go

pub returns-in-None : goal.returns-in-None
returns-in-None c =
    let floor = c.args.floor.now in
    let cell = c.args.cell.now in
    let none = subst (λ (o : Option Place). IsChoice (query_alone floor.hard.now (borrowed_cell cell)) c.anchor-target.result (option_map spot_of o)) c.in-None.is (c.in_ok-found.ensures {u = tt}) in
    (none_on_copy floor.loaded.now.frame floor.hard.now cell.team cell.mac floor.copies floor.none none, c.reason_in.ensures)
