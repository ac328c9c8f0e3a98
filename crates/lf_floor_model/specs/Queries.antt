-- Queries, which change nothing: the outcomes of where, check, def and find.
use Rattle.std.specs.Prelude.{ℕ, List, Option, map, slice_get}
use Rattle.lf_units.specs.declared.geometry.Point.{Point}
use Rattle.lf_floorplan.specs.declared.place.Place.{Place}
use Rattle.lf_rules.specs.Choice.{SpotPlace}
use Rattle.lf_reports.specs.Reports.{report_of}
use Rattle.lf_proto.specs.Numbers.{◌>>=◌}
use Rattle.lf_proto.specs.ReportText.{report_text}
use Rattle.lf_proto.specs.Requests.{place_at}
use Rattle.lf_proto.specs.declared.reply.Reply.TheVariants.{At, Report, Def}
use Rattle.lf_cells.specs.declared.cell.Cell.{Cell}
use Rattle.lf_team_def.specs.TeamText.{team_text}
use Rattle.lf_floor_model.specs.States.{TeamState}
use Rattle.lf_floor_model.specs.Teams.{TeamRules, listed_of, query_of_cell}
use Rattle.lf_cells.specs.Cells.{cell_named, working_at}
use Rattle.lf_floor_model.specs.Outcomes.{Outcome, unless_missing, unless_no_place, unless_unplaced}

-- where: the working place of the team's cell of that name
unfoldable pub located : List ℕ → TeamState → Outcome
located name s = unless_missing (cell_named name s.cells) s
    (λ own. unless_unplaced (working_at s.cells own) own s (λ place. record { reply = At place; team = s }))

-- check: the report of the team's cells at their working places, with the team's padding
unfoldable pub checked : TeamRules → TeamState → Outcome
checked t s = record {
  reply = Report
      (report_text (report_of t.legalizer t.frame t.padding (map (listed_of t.number) s.cells)));
  team = s;
}

-- def: the team's DEF text, with its cells at their working places
unfoldable pub written : TeamRules → TeamState → Outcome
written t s = record { reply = Def (team_text t.frame t.number s.cells); team = s }

-- ---- the best place of a cell

-- a place in integers as a place of the program; None if a DEF text cannot hold its corner, which
-- it can for each legal place
abbrev pub place_of_spot : SpotPlace → Option Place
place_of_spot p = place_at p.x p.y p.orient

-- the best place of the cell at that position for a target
abbrev pub best_at : TeamRules → List Cell → ℕ → Point → Option Place
best_at t cells own target = do
  c ← slice_get cells own
  best ← t.legalizer.best_place (query_of_cell t cells own c) target
  place_of_spot best

-- find: the best place of the cell for the target
unfoldable pub found : TeamRules → List ℕ → Point → TeamState → Outcome
found t name target s = unless_missing (cell_named name s.cells) s
    (λ own. unless_no_place (best_at t s.cells own target) own s (λ place. record { reply = At place; team = s }))
