-- How full the fullest bins are with the cells of a floor.
use Rattle.std.specs.Prelude.{ℕ, List, [], ◌∷◌, codes, flat_map}
use Rattle.std.specs.Option.{option_map_or}
use Rattle.serde_json.specs.Data.{Members, put}
use Rattle.lf_units.specs.declared.geometry.Rect.{Rect}
use Rattle.lf_floorplan.specs.declared.frame.Frame.{Frame}
use Rattle.lf_rules.specs.Choice.{spot_of}
use Rattle.lf_rules.specs.Team.{box_in}
use Rattle.lf_cells.specs.declared.cell.Cell.{Cell}
use Rattle.lf_density.specs.declared.density.Density.{Density}
use Rattle.lf_density.specs.Density.{IsDensityOf}
use Rattle.lf_floor_model.specs.States.{FloorState}
use Rattle.lf_describe.specs.Description.{count_data as whole_number}
use Rattle.lf_task_reports.specs.declared.density.DensityChange.{DensityChange}

-- the box of a cell at its working place; none if it is unplaced
abbrev pub working_box : Frame → Cell → List Rect
working_box f c = option_map_or (λ p. box_in f c.mac (spot_of p) ∷ []) c.working []

-- the boxes of the placed cells of a list
abbrev pub cell_boxes : Frame → List Cell → List Rect
cell_boxes f cells = flat_map (working_box f) cells

-- the boxes of the placed cells of all teams
abbrev pub working_boxes : FloorState → List Rect
working_boxes floor = flat_map (λ s. cell_boxes floor.frame s.cells) floor.teams

-- the density of the floor, with its cells at their working places
abbrev pub IsDensityOn : FloorState → Density → Type 0
IsDensityOn floor density = IsDensityOf floor.frame (working_boxes floor) density

-- the members with a number under this key, and what it was before under the other
abbrev pub with_change : List ℕ → List ℕ → ℕ → ℕ → Members → Members
with_change key key_before before after ms = put key_before (whole_number before) (put key (whole_number after) ms)

-- the members with the mean utilization of the fullest 2, 5, 10 and 20 % of the bins, in thousandths,
-- at the end and at the beginning
abbrev pub with_density : DensityChange → Members → Members
with_density d ms =
    with_change (codes "fullest_5") (codes "fullest_5_before") d.before.fullest_5 d.after.fullest_5
    (with_change (codes "fullest_20") (codes "fullest_20_before") d.before.fullest_20 d.after.fullest_20
    (with_change (codes "fullest_2") (codes "fullest_2_before") d.before.fullest_2 d.after.fullest_2
    (with_change (codes "fullest_10") (codes "fullest_10_before") d.before.fullest_10 d.after.fullest_10 ms)))
