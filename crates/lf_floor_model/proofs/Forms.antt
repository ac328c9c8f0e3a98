-- Parts of outcomes and answers with what decides them in front, for proofs by cases.
use Rattle.std.specs.Prelude.{ℕ, ◌+◌, List, Option, Some, None, map, slice_get, slice_set, nat_lt, if◌then◌else◌, option_and_then}
use Rattle.std.specs.Option.{option_map_or}
use Rattle.lf_units.specs.declared.geometry.Point.{Point}
use Rattle.lf_floorplan.specs.declared.frame.Frame.{Frame}
use Rattle.lf_floorplan.specs.declared.limits.Limits.{Limits}
use Rattle.lf_floorplan.specs.declared.place.Place.{Place}
use Rattle.lf_rules.specs.declared.rule.Broken.{Broken}
use Rattle.lf_rules.specs.Choice.{candidate_at, spot_of}
use Rattle.lf_rules.specs.FullyLegal.{DesignCell, design_cells_from}
use Rattle.lf_rules.specs.Legality.{Candidate}
use Rattle.lf_rules.specs.Legalizer.{Legalizer}
use Rattle.lf_rules.specs.Team.{Member}
use Rattle.lf_proto.specs.declared.reply.Reply.TheVariants.{At, Legalized}
use Rattle.lf_proto.specs.declared.reply.Refusal.TheVariants.{RevisionsSpent}
use Rattle.lf_proto.specs.declared.request.TeamCommand.{TeamCommand}
use Rattle.lf_proto.specs.declared.verb.Change.{Change}
use Rattle.lf_cells.specs.declared.cell.Cell.{Cell}
use Rattle.lf_cells.specs.Cells.{moved, working_at}
use Rattle.lf_floor_model.specs.States.{TeamState, FloorState}
use Rattle.lf_floor_model.specs.Teams.{TeamRules, broken_at, query_of_cell}
use Rattle.lf_floor_model.specs.Outcomes.{Outcome, refused, unless_missing, unless_unplaced, unless_broken, unless_no_place, changed, with_entry, recorded, with_reply}
use Rattle.lf_floor_model.specs.Queries.{place_of_spot, best_at}
use Rattle.lf_floor_model.specs.Changes.{exchanged, swapped_to, outcome_of_change}
use Rattle.lf_floor_model.specs.Steps.{Answer, answer_of_outcome, no_team, outcome_by_rules}
use Rattle.lf_floor_model.specs.Committed.{committed_members}

-- ---- teams and cells

-- the state of the team of that number
abbrev pub state_at : List TeamState → Option ℕ → Option TeamState
state_at teams number = option_and_then (slice_get teams) number

-- the cell at that position, as a candidate at the place
abbrev pub candidate_of_cell : TeamRules → List Cell → ℕ → Cell → Place → Candidate
candidate_of_cell t cells own c place = candidate_at (query_of_cell t cells own c) (spot_of place)

-- the first rule that this cell breaks
abbrev pub broken_by : Option Cell → TeamRules → List Cell → ℕ → Place → Option Broken
broken_by cell t cells own place = option_and_then (λ c. t.legalizer.first_broken (candidate_of_cell t cells own c place)) cell

-- the places of the cells of a tidied team
abbrev pub places_in : List Member → List (Option Place)
places_in members = map (λ m. option_and_then place_of_spot m.place) members

-- the committed design
abbrev pub committed_design : FloorState → List DesignCell
committed_design floor = design_cells_from 0 (map committed_members floor.teams)

-- the team with the session's slot changed
abbrev pub with_session_slot : ℕ → Option ℕ → TeamState → TeamState
with_session_slot session seen s = record s { slots = slice_set s.slots session seen }

-- ---- queries

abbrev pub located_at : Option Place → ℕ → TeamState → Outcome
located_at place own s = unless_unplaced place own s (λ place. record { reply = At place; team = s })

abbrev pub located_own : Option ℕ → TeamState → Outcome
located_own own s = unless_missing own s (λ own. located_at (working_at s.cells own) own s)

abbrev pub found_at : Option Place → ℕ → TeamState → Outcome
found_at place own s = unless_no_place place own s (λ place. record { reply = At place; team = s })

abbrev pub found_own : Option ℕ → TeamRules → Point → TeamState → Outcome
found_own own t target s = unless_missing own s (λ own. found_at (best_at t s.cells own target) own s)

-- ---- changes

abbrev pub placed_unless : Option Broken → ℕ → Limits → ℕ → Place → TeamState → Outcome
placed_unless broken own limits session place s =
    unless_broken broken own s (changed session (moved s.cells own (Some place)) (with_entry limits s) s)

abbrev pub placed_own : Option ℕ → TeamRules → ℕ → Place → TeamState → Outcome
placed_own own t session place s =
    unless_missing own s (λ own. placed_unless (broken_at t s.cells own place) own t.frame.limits session place s)

abbrev pub unplaced_from : Option Place → ℕ → Limits → ℕ → TeamState → Outcome
unplaced_from place own limits session s =
    unless_unplaced place own s (λ place. changed session (moved s.cells own None) (with_entry limits s) s)

abbrev pub unplaced_own : Option ℕ → Limits → ℕ → TeamState → Outcome
unplaced_own own limits session s = unless_missing own s (λ own. unplaced_from (working_at s.cells own) own limits session s)

abbrev pub legalized_at : Option Place → TeamRules → ℕ → ℕ → TeamState → Outcome
legalized_at place t session own s = unless_no_place place own s
    (λ place. with_reply (Legalized (s.revision + 1) place) (recorded t session (moved s.cells own (Some place)) s))

abbrev pub legalized_own : Option ℕ → TeamRules → ℕ → Point → TeamState → Outcome
legalized_own own t session target s = unless_missing own s (λ own. legalized_at (best_at t s.cells own target) t session own s)

abbrev pub swapped_unless : Option Broken → Option Broken → TeamRules → ℕ → ℕ → ℕ → List Cell → TeamState → Outcome
swapped_unless broken other t session first second cells s =
    unless_broken broken first s (unless_broken other second s (recorded t session cells s))

abbrev pub swapped_from : Option Place → Option Place → TeamRules → ℕ → ℕ → ℕ → TeamState → Outcome
swapped_from place other t session first second s = unless_unplaced place first s
    (λ from. unless_unplaced other second s (λ to. swapped_to (exchanged s.cells first second) t session first second s))

abbrev pub swapped_own : Option ℕ → Option ℕ → TeamRules → ℕ → TeamState → Outcome
swapped_own own other t session s = unless_missing own s (λ first. unless_missing other s
    (λ second. swapped_from (working_at s.cells first) (working_at s.cells second) t session first second s))

-- ---- verbs and answers

abbrev pub unless_spent : TeamRules → ℕ → Change (List ℕ) Place → TeamState → Outcome
unless_spent t session change s =
    if nat_lt s.revision t.frame.limits.revisions then outcome_of_change t session change s else refused RevisionsSpent s

abbrev pub answer_by : Option TeamState → Legalizer → FloorState → ℕ → TeamCommand (List ℕ) Place → Answer
answer_by team l floor number order =
    option_map_or (λ s. answer_of_outcome floor number (outcome_by_rules l floor.frame number order s)) team (no_team floor)
