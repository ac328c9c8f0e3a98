use Rattle.std.proofs.Common.{[], arith}
use Rattle.lf_cells.specs.Cells.{cells_of}
use Rattle.lf_occupancy.specs.Floorplans.{boxes_in}
use Rattle.lf_occupancy.specs.Strips.{with_boxes}
use Rattle.lf_placement.specs.Placements.{boxes_at, committed_of}
use Rattle.lf_placement.proofs.Tallying.{all_committed, bounds_at_work, bounds_fit, gains_none, gains_through, team_next}
use Rattle.lf_placement.proofs.counted_capacity.fit_all_committed.Goals as goal

pub loop-team-init : goal.loop-team-init
loop-team-init c =
    let f = c.args.sized.now.frame.now in
    let cells = c.args.sized.now.cells.now in
    let m = c.args.occupancy.now in
    let tally = c.in_ok-counts.counts in
    let are = c.in_ok-counts.ensures {u = tt} in
    record {
      half = record {
        done = λ t less. absurd (omega (arith, less));
        rest = λ t past. bounds_at_work f cells t (with_boxes m []) tally (are.bounds (boxes_in f cells) t c.requires);
      };
      gains = gains_none m;
      room = are.room;
    }

pub returns-in_err-fit_team-clause-gains : goal.returns-in_err-fit_team-clause-gains
returns-in_err-fit_team-clause-gains c =
    gains_through c.args.occupancy.now c.loop-team.occupancy c.fit_team.new.occupancy c.loop-team.invariant.gains c.in_err-fit_team.ensures.gains

pub loop-team-preserved : goal.loop-team-preserved
loop-team-preserved c =
    let team = c.loop-team.team in
    let half = c.loop-team.invariant.half in
    record {
      half = team_next c.args.sized.now.frame.now c.args.sized.now.cells.now (with_boxes c.loop-team.occupancy []) (with_boxes c.fit_team.new.occupancy []) team c.loop-team.counts
          c.fit_team.new.counts half (c.in_ok-fit_team.ensures.own (half.rest team (omega arith))) c.in_ok-fit_team.ensures.others;
      gains = gains_through c.args.occupancy.now c.loop-team.occupancy c.fit_team.new.occupancy c.loop-team.invariant.gains c.in_ok-fit_team.ensures.gains;
      room = c.in_ok-fit_team.ensures.room;
    }

pub returns-clause-fits : goal.returns-clause-fits
returns-clause-fits c = λ team.
    let f = c.args.sized.now.frame.now in
    let cells = c.args.sized.now.cells.now in
    let own = cells_of cells team in
    let held = with_boxes c.loop-team.occupancy [] in
    let tally = c.loop-team.counts in
    bounds_fit held team (boxes_at f own (committed_of own)) tally c.loop-team.invariant.room
    (all_committed f cells c.cell_ids.result.now c.team_count-team-end.result c.loop-team.team held tally c.cell_ids.ensures c.team_count-team-end.ensures
    c.loop-team-test.false c.loop-team.invariant.half team)
