use Rattle.std.proofs.Common.{◌≡◌, ℕ, ◌+◌, ◌*◌, arith, subst}
use Rattle.lf_cells.specs.Cells.{cells_of}
use Rattle.lf_cells.proofs.TeamIds.{ids_long}
use Rattle.lf_occupancy.specs.Building.{AreFilledIn, PrecedesCell}
use Rattle.lf_occupancy.specs.Strips.{widened_strips}
use Rattle.lf_occupancy.proofs.Building.{filled_same}
use Rattle.lf_occupancy.proofs.Parting.{team_passed}
use Rattle.lf_occupancy.proofs.build.fill_team.Goals as goal

pub loop-part-preserved : goal.loop-part-preserved
loop-part-preserved c =
    let f = c.args.placed.now.frame.now in
    let xs = widened_strips f.pitch.x c.args.placed.now.index.now.strips in
    let part = c.loop-part.part in
    let more : part * 65536 + 65536 ≡ (part + 1) * 65536 = omega arith in
    subst (λ (n : ℕ). AreFilledIn f c.args.placed.now.cells.now xs (PrecedesCell c.args.team n) c.fill_in.new.mark_lists.items) more c.in_ok-fill_in.ensures

pub returns : goal.returns
returns c =
    let f = c.args.placed.now.frame.now in
    let cells = c.args.placed.now.cells.now in
    let team = c.args.team in
    let from = c.loop-part.part * 65536 in
    let many = ids_long team (cells_of cells team) c.cells_of.result.now c.cells_of.ensures in
    let past = c.loop-part-test.false in
    filled_same f cells (widened_strips f.pitch.x c.args.placed.now.index.now.strips) (PrecedesCell team from) (PrecedesCell (team + 1) 0) c.loop-part.mark_lists.items
    (team_passed from team cells (omega (arith, many, past))) c.loop-part.invariant
