use Rattle.std.proofs.Common.{◌-◌, ◌^◌, ◌∙◌, [], ap, get_or, min}
use Rattle.std.specs.Prelude.{ℕ, List, Option}
use Rattle.lf_floorplan.specs.declared.place.Place.{Place}
use Rattle.lf_wire_length.specs.TeamNets.{length_of_listed}
use Rattle.lf_improve_team.specs.FloorLengths.{listed_place}
use Rattle.lf_improve_team.proofs.team.length_of_team.Goals as goal

pub returns : goal.returns
returns g c =
    let nets = c.args.wires.now.netlist.now.nets in
    let numbers = get_or c.args.wires.now.of_teams.now c.args.number [] in
    record {
      places = c.working.result;
      listed = c.working.ensures;
      length_is = c.length_of.ensures
          ∙ ap (λ (cells : List (ℕ × Option Place) × List ℕ). min (length_of_listed (listed_place cells.0) nets c.of.result.now) (2 ^ 64 - 1)) c.new-cells.ensures
          ∙ ap (λ (ns : List ℕ). min (length_of_listed (listed_place c.working.result) nets ns) (2 ^ 64 - 1)) c.of.ensures;
    }
