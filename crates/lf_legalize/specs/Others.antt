-- The box of one cell among those of its team. No public clause cites this module.
use Rattle.std.specs.Prelude.{◌==◌, ℕ, List, [], filter, not, Option, Some, None}
use Rattle.std.specs.Option.{option_map}
use Rattle.lf_floorplan.specs.declared.frame.Frame.{Frame}
use Rattle.lf_units.specs.declared.placed.Placed.{Placed}
use Rattle.lf_rules.specs.Choice.{spot_of}
use Rattle.lf_rules.specs.Team.{with_box}
use Rattle.lf_cells.specs.declared.cell.Cell.{Cell}

-- the box of the cell of this number if it is placed and not the cell `own`; otherwise no box
abbrev pub beside_one : Frame → ℕ → ℕ → Option Cell → List Placed
beside_one f own n None = []
beside_one f own n (Some c) =
    filter (λ box. not (box.own == own)) (with_box f n c.mac (option_map spot_of c.working) [])
