-- How tidying runs over the cells of a table; no public clause cites it.
use Rattle.std.specs.Prelude.{◌≡◌, ℕ, ◌+◌, List, map, Option, slice_get, option_and_then}
use Rattle.std.specs.Option.{option_map}
use Rattle.lf_units.specs.declared.geometry.Point.{Point}
use Rattle.lf_rules.specs.Choice.{spot_of}
use Rattle.lf_rules.specs.Tidy.{Tidied, Going, Stuck, target_of, tidied, tidy_cell}
use Rattle.lf_cells.specs.declared.cell.Cell.{Cell}
use Rattle.lf_legalize.specs.Members.{member_of}
use Rattle.lf_floor_verbs.specs.declared.tidy.TidyStep.{TidyStep}
use Rattle.lf_floor_verbs.specs.declared.tidy.TidyStep.TheVariants.{Stays, Goes, Nowhere}
use Rattle.lf_floor_verbs.specs.declared.tidy.Tidy.{Tidy}
use Rattle.lf_floor_verbs.specs.declared.tidy.Tidy.TheVariants.{Done, Stopped}
use Rattle.lf_floor_model.specs.Teams.{TeamRules, query_of_cell}

-- the target to which the cell at that position is tidied; None if it stays
abbrev pub tidy_target_at : TeamRules → List Cell → ℕ → Option Point
tidy_target_at t cells own =
    option_and_then (λ c. target_of t.legalizer (query_of_cell t cells own c) (option_map spot_of c.working))
    (slice_get cells own)

-- the result for one cell, as tidying counts it
abbrev pub tidy_result_of : TidyStep → List Cell → ℕ → ℕ → Tidied
tidy_result_of Stays cells moved own = Going (map member_of cells) moved
tidy_result_of Goes cells moved own = Going (map member_of cells) (moved + 1)
tidy_result_of Nowhere cells moved own = Stuck own

-- tidying the cell at that position turns the old cells into the new ones
abbrev pub TidiesOneCell : TeamRules → ℕ → List Cell → List Cell → TidyStep → Type 0
TidiesOneCell t own old new sent =
    (moved : ℕ) → tidy_cell t.legalizer t.frame t.number t.padding (Going (map member_of old) moved) own
    ≡ tidy_result_of sent new moved own

-- the result for all cells
abbrev pub tidied_as : Tidy → List Cell → Tidied
tidied_as (Done moved) cells = Going (map member_of cells) moved
tidied_as (Stopped own) cells = Stuck own

-- tidying turns the old cells into the new ones
abbrev pub TidiesCells : TeamRules → List Cell → List Cell → Tidy → Type 0
TidiesCells t old new tidy = tidied t.legalizer t.frame t.number t.padding (map member_of old) ≡ tidied_as tidy new
