-- Changes: the outcomes of place, unplace, legalize, tidy, swap, revert, undo, commit and pad.
use Rattle.std.specs.Prelude.{ℕ, ◌+◌, List, [], ◌∷◌, Option, Some, None, position, is_none, map, filter_map, length, option_map, option_and_then}
use Rattle.std.specs.List.{range_with_len}
use Rattle.lf_units.specs.declared.geometry.Point.{Point}
use Rattle.lf_floorplan.specs.declared.place.Place.{Place}
use Rattle.lf_floorplan.specs.declared.limits.Limits.{Limits}
use Rattle.lf_rules.specs.declared.rule.Broken.{Broken}
use Rattle.lf_rules.specs.declared.padding.Padding.{Padding}
use Rattle.lf_rules.specs.Tidy.{Tidied, Going, Stuck, tidied}
use Rattle.lf_reports.specs.declared.broken_cell.BrokenCell.{BrokenCell}
use Rattle.lf_proto.specs.Numbers.{◌>>=◌}
use Rattle.lf_proto.specs.declared.verb.Change.{Change}
use Rattle.lf_proto.specs.declared.verb.Change.TheVariants.{Place as PlaceAt, Legalize, Tidy, Unplace, Swap, Undo, Commit, Revert, Pad}
use Rattle.lf_proto.specs.declared.reply.Reply.TheVariants.{Legalized, Tidied as TidyDone}
use Rattle.lf_proto.specs.declared.reply.Refusal.TheVariants.{Unplaced, Illegal, NoPlace, NothingToUndo}
use Rattle.lf_cells.specs.declared.cell.Cell.{Cell}
use Rattle.lf_floor_model.specs.States.{TeamState}
use Rattle.lf_floor_model.specs.Teams.{TeamRules, broken_at}
use Rattle.lf_cells.specs.Cells.{cell_named, moved, working_at, as_committed}
use Rattle.lf_legalize.specs.Members.{member_of}
use Rattle.lf_floor_model.specs.Outcomes.{Outcome, refused, unless_missing, unless_unplaced, unless_broken, unless_no_place, changed, with_entry, recorded, with_reply}
use Rattle.lf_floor_model.specs.Queries.{place_of_spot, best_at}

-- ---- changes that can be undone

-- place: the team's cell of that name is moved to the place if it breaks no rule there
unfoldable pub placed : TeamRules → ℕ → List ℕ → Place → TeamState → Outcome
placed t session name place s = unless_missing (cell_named name s.cells) s
    (λ own. unless_broken (broken_at t s.cells own place) own s
    (recorded t session (moved s.cells own (Some place)) s))

-- unplace: the team's cell of that name becomes unplaced
unfoldable pub unplaced : Limits → ℕ → List ℕ → TeamState → Outcome
unplaced limits session name s = unless_missing (cell_named name s.cells) s
    (λ own. unless_unplaced (working_at s.cells own) own s
    (λ place. changed session (moved s.cells own None) (with_entry limits s) s))

-- legalize: the cell is moved to its best place for the target, which the reply contains
unfoldable pub legalized : TeamRules → ℕ → List ℕ → Point → TeamState → Outcome
legalized t session name target s = unless_missing (cell_named name s.cells) s
    (λ own. unless_no_place (best_at t s.cells own target) own s
    (λ place. with_reply (Legalized (s.revision + 1) place) (recorded t session (moved s.cells own (Some place)) s)))

-- the cells with these working places
abbrev pub restored : List (Option Place) → List Cell → List Cell
restored [] cells = cells
restored (place ∷ places) [] = []
restored (place ∷ places) (c ∷ cells) = record c { working = place } ∷ restored places cells

-- the cells are moved to the places that tidying finds, and the reply counts the cells moved to
-- their best place; refused if a cell has no best place
abbrev pub tidied_by : Tidied → TeamRules → ℕ → TeamState → Outcome
tidied_by (Stuck own) t session s = refused (NoPlace own) s
tidied_by (Going members count) t session s =
    let places = map (λ m. option_and_then place_of_spot m.place) members in
    with_reply (TidyDone (s.revision + 1) count) (recorded t session (restored places s.cells) s)

-- tidy: in loading order, each cell that is unplaced or not team-legal is moved to its best place
unfoldable pub tidied_team : TeamRules → ℕ → TeamState → Outcome
tidied_team t session s = tidied_by (tidied t.legalizer t.frame t.number t.padding (map member_of s.cells)) t session s

-- the first rule that the cell at that position breaks at its working place; None if it is unplaced
abbrev pub broken_where : TeamRules → List Cell → ℕ → Option Broken
broken_where t cells own = do
  place ← working_at cells own
  broken_at t cells own place

-- the cells with the working places of two of them exchanged
abbrev pub exchanged : List Cell → ℕ → ℕ → List Cell
exchanged cells first second = moved (moved cells first (working_at cells second)) second (working_at cells first)

-- each cell is tested with the places of all cells after the exchange; the first is tested first
abbrev pub swapped_to : List Cell → TeamRules → ℕ → ℕ → ℕ → TeamState → Outcome
swapped_to cells t session first second s =
    unless_broken (broken_where t cells first) first s
    (unless_broken (broken_where t cells second) second s (recorded t session cells s))

-- swap: the two cells exchange their places and orientations; a cell swapped with itself is tested
-- at its place
unfoldable pub swapped : TeamRules → ℕ → List ℕ → List ℕ → TeamState → Outcome
swapped t session first second s =
    unless_missing (cell_named first s.cells) s (λ own. unless_missing (cell_named second s.cells) s
    (λ other. unless_unplaced (working_at s.cells own) own s (λ from. unless_unplaced (working_at s.cells other) other s
    (λ to. swapped_to (exchanged s.cells own other) t session own other s))))

-- the cell at its committed place
abbrev pub back_to_committed : Cell → Cell
back_to_committed c = record c { working = c.committed }

-- revert: every cell is moved back to its committed place, unchecked
unfoldable pub reverted : TeamRules → ℕ → TeamState → Outcome
reverted t session s = recorded t session (map back_to_committed s.cells) s

-- ---- changes that cannot be undone

-- the newest entry's places become the working places, and the other entries stay; refused if there
-- is no entry
abbrev pub undone_by : List (List (Option Place)) → ℕ → TeamState → Outcome
undone_by [] session s = refused NothingToUndo s
undone_by (places ∷ entries) session s = changed session (restored places s.cells) entries s

-- undo: the places of the newest entry are restored, unchecked, and the entry is dropped
unfoldable pub undone : ℕ → TeamState → Outcome
undone session s = undone_by s.entries session s

-- the position of the first unplaced cell
abbrev pub first_unplaced : List Cell → Option ℕ
first_unplaced cells = position (λ c. is_none c.working) cells

-- the cells that break a rule at their working places, in loading order
abbrev pub broken_cells : TeamRules → List Cell → List BrokenCell
broken_cells t cells =
    filter_map (λ own. option_map (λ broken. record { own = own; broken = broken }) (broken_where t cells own))
    (range_with_len 0 (length cells))

-- refused for the first unplaced cell, otherwise for the first cell that breaks a rule; otherwise
-- the places are committed
abbrev pub committed_unless : Option ℕ → List BrokenCell → ℕ → TeamState → Outcome
committed_unless (Some own) illegal session s = refused (Unplaced own) s
committed_unless None (first ∷ others) session s = refused (Illegal first.broken.rule first.own first.broken.other) s
committed_unless None [] session s = changed session (map as_committed s.cells) s.entries s

-- commit: if every cell is placed and no cell breaks a rule, the working places are committed
unfoldable pub committed : TeamRules → ℕ → TeamState → Outcome
committed t session s = committed_unless (first_unplaced s.cells) (broken_cells t s.cells) session s

-- pad: the team gets this padding; no cell is moved or tested, and the undo entries stay
unfoldable pub padded : Padding → ℕ → TeamState → Outcome
padded padding session s = changed session s.cells s.entries (record s { padding = padding.sites })

-- ---- all changes

-- the outcome of a change
abbrev pub outcome_of_change : TeamRules → ℕ → Change (List ℕ) Place → TeamState → Outcome
outcome_of_change t session (PlaceAt name place) s = placed t session name place s
outcome_of_change t session (Legalize name target) s = legalized t session name target s
outcome_of_change t session Tidy s = tidied_team t session s
outcome_of_change t session (Unplace name) s = unplaced t.frame.limits session name s
outcome_of_change t session (Swap first second) s = swapped t session first second s
outcome_of_change t session Undo s = undone session s
outcome_of_change t session Commit s = committed t session s
outcome_of_change t session Revert s = reverted t session s
outcome_of_change t session (Pad padding) s = padded padding session s
