-- The cells of a table as the rules see them, and the best place of one cell.
use Rattle.std.specs.Prelude.{ℕ, List, map, Option, slice_get, option_and_then}
use Rattle.std.specs.Option.{option_map}
use Rattle.lf_units.specs.declared.geometry.Point.{Point}
use Rattle.lf_floorplan.specs.declared.frame.Frame.{Frame}
use Rattle.lf_rules.specs.Choice.{SpotPlace, spot_of}
use Rattle.lf_rules.specs.Legalizer.{Legalizer}
use Rattle.lf_rules.specs.Team.{Member, query_from}
use Rattle.lf_cells.specs.declared.cell.Cell.{Cell}
use Rattle.lf_occupancy.specs.Floorplans.{HasSize}

-- the macro and the working place of a cell, as the rules see it
abbrev pub member_of : Cell → Member
member_of c = record { mac = c.mac; place = option_map spot_of c.working }

-- the cell's macro is one of the frame's, of whole size
abbrev pub IsSizedCell : Frame → Cell → Type 0
IsSizedCell f c = HasSize f c

-- the best place for a target of the cell at this position, regarded as unplaced among the cells of
-- its team, which has this padding in core sites; None if no place is team-legal, or there is no
-- such cell
abbrev pub best_of : Legalizer → Frame → ℕ → ℕ → List Cell → ℕ → Point → Option SpotPlace
best_of l f team padding cells own target =
    option_and_then (λ c. l.best_place (query_from f team padding (map member_of cells) own c.mac) target)
    (slice_get cells own)
