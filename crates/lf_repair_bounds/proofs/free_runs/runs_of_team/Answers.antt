use Rattle.std.proofs.Common.{List, sym, subst}
use Rattle.std.specs.Prelude.{All}
use Rattle.std.proofs.lemmas.Result.{IfOk-weaker}
use Rattle.lf_segments.specs.declared.strip.Strip.{Strip}
use Rattle.lf_cells.specs.Cells.{cells_of}
use Rattle.lf_repair_bounds.specs.FreeRuns.{AreRunsOfStrips, IsInRow}
use Rattle.lf_repair_bounds.specs.Gaps.{placed_team}
use Rattle.lf_repair_bounds.proofs.BlockedLemmas.{blocked_moved}
use Rattle.lf_repair_bounds.proofs.TeamRunLemmas.{strips_in_rows, team_runs}
use Rattle.lf_repair_bounds.proofs.free_runs.runs_of_team.Goals as goal

pub runs_of_strips-requires : goal.runs_of_strips-requires
runs_of_strips-requires c =
    subst (λ (strips : List Strip). All (IsInRow c.args.frame.now) strips) (sym c.strips.ensures)
    (strips_in_rows c.args.frame.now c.args.index.now c.requires.index)

pub returns : goal.returns
returns c =
    let f = c.args.frame.now in
    let t = placed_team f c.args.team c.args.padding.sites (cells_of c.args.cells.now c.args.team) in
    let tree = c.in_ok-tree.tree in
    let blocked = blocked_moved t c.in_ok-boxes.boxes.items tree c.in_ok-tree.ensures c.in_ok-boxes.ensures in
    IfOk-weaker c.runs_of_strips.result _ _
    (λ runs of. team_runs t tree blocked c.args.index.now c.requires.index runs.items
    (subst (λ (strips : List Strip). AreRunsOfStrips f c.args.team tree strips runs.items) c.strips.ensures of))
    c.runs_of_strips.ensures
