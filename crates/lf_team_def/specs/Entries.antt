-- Entries of sections, with the cells looked up by their ids one by one.
use Rattle.std.specs.Prelude.{ℕ, List, [], ◌∷◌, ◌++◌, Option, Some, None, codes}
use Rattle.lf_floorplan.specs.declared.place.Place.{Place}
use Rattle.lf_floorplan.specs.declared.frame.Frame.{Frame}
use Rattle.lf_cells.specs.declared.cell.Cell.{Cell}
use Rattle.lf_team_def.specs.Clauses.{clause_words}
use Rattle.lf_team_def.specs.TeamText.{words_line, team_component_words}

-- The words of a component with this name, macro and place.
abbrev pub placed_words : List ℕ → List ℕ → Option Place → List (List ℕ)
placed_words name macro place = codes "-" ∷ name ∷ macro ∷ (clause_words place ++ codes ";" ∷ [])

-- The line of a cell's component. Empty if there is no cell.
abbrev pub component_line : Frame → Option Cell → List ℕ
component_line f None = []
component_line f (Some c) = words_line (team_component_words f c)

-- A space and the cell's name. Empty if there is no cell.
abbrev pub spaced_name : Option Cell → List ℕ
spaced_name None = []
spaced_name (Some c) = 32 ∷ c.name
