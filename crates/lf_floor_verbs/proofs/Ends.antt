-- The effect of the end of a change on the tables.
use Rattle.std.proofs.Common.{◌≡◌, ℕ, ◌+◌, List, [], ◌∷◌, length, map, take, Option, Some, refl, ap, subst, ◌∙◌}
use Rattle.std.specs.Prelude.{slice_set, slice_index_or}
use Rattle.std.proofs.lemmas.List.{length-set, get_or-set_same}
use Rattle.lf_floorplan.specs.declared.place.Place.{Place}
use Rattle.lf_cells.specs.declared.cell.Cell.{Cell}
use Rattle.lf_cells.specs.Cells.{cells_of}
use Rattle.lf_sessions.specs.Slots.{slots_of}
use Rattle.lf_undo.specs.declared.moves.Move.{Move}
use Rattle.lf_undo.specs.Stacks.{Stacks, stack_of}
use Rattle.lf_undo.specs.Entries.{entries_of}
use Rattle.lf_undo.proofs.Undone.{grow_entries}
use Rattle.lf_proto.specs.declared.reply.Reply.TheVariants.{Revision, Refused, Tidied as TidyDone}
use Rattle.lf_proto.specs.declared.reply.Refusal.TheVariants.{NoPlace}
use Rattle.lf_floor_model.specs.Changes.{back_to_committed, reverted, tidied_team}
use Rattle.lf_floor_model.specs.Outcomes.{IsOutcome, IsOutOfMemory, changed, places_of, recorded, with_reply}
use Rattle.lf_floor_model.specs.Teams.{TeamRules}
use Rattle.lf_floor_model.specs.States.{TeamState}
use Rattle.lf_floor_verbs.specs.declared.tables.Tables.{Tables}
use Rattle.lf_placement.specs.Placements.{HaveMoved, Placing, SameButPlaces}
use Rattle.lf_floor_verbs.specs.Tables.{CountsChange, HasRows, table_cells, team_after_change, own_team, padding_of, revision_of, team_with}
use Rattle.lf_floor_verbs.specs.declared.tidy.Tidy.{Tidy}
use Rattle.lf_floor_verbs.specs.declared.tidy.Tidy.TheVariants.{Done, Stopped}
use Rattle.lf_floor_verbs.specs.Tidying.{TidiesCells}
use Rattle.lf_floor_verbs.proofs.Sending.{tidied_done, tidied_short, tidied_stuck}

-- a team with these parts
abbrev pub team_of : List Cell → ℕ → List (List (Option Place)) → List (Option ℕ) → ℕ → TeamState
team_of cells revision entries slots padding =
    record { cells = cells; revision = revision; entries = entries; slots = slots; padding = padding }

-- ---- a change is counted

counted_revision : (k session : ℕ) (old new : Tables) → HasRows k old → CountsChange k session old new → revision_of new k ≡ revision_of old k + 1
counted_revision k session old new rows counts =
    ap (λ (xs : List ℕ). slice_index_or xs k 0) counts.revisions ∙ get_or-set_same old.revisions.items k (revision_of old k + 1) 0 rows.revisions

counted_slots : (k session : ℕ) (old new : Tables) → HasRows k old → CountsChange k session old new
    → slots_of new.sessions k ≡ slice_set (slots_of old.sessions k) session (Some (revision_of old k + 1))
counted_slots k session old new rows counts =
    ap (λ (xs : List (List (Option ℕ))). slots_of xs k) counts.sessions
    ∙ get_or-set_same old.sessions k (slice_set (slots_of old.sessions k) session (Some (revision_of old k + 1))) [] rows.sessions

counted_padding : (k session : ℕ) (old new : Tables) → CountsChange k session old new → padding_of new k ≡ padding_of old k
counted_padding k session old new counts = rw counts.paddings refl

-- the team, with these cells, after a change is counted
pub counted_team : (k session : ℕ) (cells : List Cell) (old new : Tables) → HasRows k old → CountsChange k session old new
    → team_with k cells new
    ≡ team_of cells (revision_of old k + 1) (entries_of (places_of cells) (stack_of old.undo k))
    (slice_set (slots_of old.sessions k) session (Some (revision_of old k + 1))) (padding_of old k)
counted_team k session cells old new rows counts =
    ap (λ (n : ℕ). team_of cells n (entries_of (places_of cells) (stack_of new.undo k)) (slots_of new.sessions k) (padding_of new k))
    (counted_revision k session old new rows counts)
    ∙ ap (λ (u : Stacks (List Move)). team_of cells (revision_of old k + 1) (entries_of (places_of cells) (stack_of u k)) (slots_of new.sessions k) (padding_of new k)) counts.undo
    ∙ ap (λ (ss : List (Option ℕ)). team_of cells (revision_of old k + 1) (entries_of (places_of cells) (stack_of old.undo k)) ss (padding_of new k))
    (counted_slots k session old new rows counts)
    ∙ ap (λ (n : ℕ). team_of cells (revision_of old k + 1) (entries_of (places_of cells) (stack_of old.undo k))
    (slice_set (slots_of old.sessions k) session (Some (revision_of old k + 1))) n) (counted_padding k session old new counts)

pub counted_own : (k session : ℕ) (old new : Tables) → HasRows k old → CountsChange k session old new
    → own_team k new
    ≡ team_of (table_cells k old) (revision_of old k + 1) (entries_of (places_of (table_cells k old)) (stack_of old.undo k))
    (slice_set (slots_of old.sessions k) session (Some (revision_of old k + 1))) (padding_of old k)
counted_own k session old new rows counts =
    ap (λ (p : Placing). team_with k (cells_of p.cells k) new) counts.placement ∙ counted_team k session (table_cells k old) old new rows counts

-- ---- a stack changes

-- ---- a change is recorded

-- the rows are still there if only the undo stacks change
pub rows_by_undo : (k : ℕ) (old : Tables) (undo : Stacks (List Move)) → length undo.lists ≡ length old.undo.lists → HasRows k old
    → HasRows k (record old { undo = undo })
rows_by_undo k old undo same rows = record { undo = rw same rows.undo; sessions = rows.sessions; revisions = rows.revisions; paddings = rows.paddings }

-- the team whose moves are recorded
pub kept_team : (k session : ℕ) (before : List Cell) (moves : List Move) (old : Tables) (undo : Stacks (List Move)) (new : Tables) → HasRows k old
    → undo.lists ≡ slice_set old.undo.lists k (take old.undo.limit (moves ∷ stack_of old.undo k)) → CountsChange k session (record old { undo = undo }) new
    → HaveMoved before moves (table_cells k old) → own_team k new ≡ team_after_change k session before (table_cells k old) old
kept_team k session before moves old undo new rows lists counts have =
    let mid : Tables = record old { undo = undo } in
    let now = table_cells k old in
    let stack = take old.undo.limit (moves ∷ stack_of old.undo k) in
    let same : length undo.lists ≡ length old.undo.lists = ap (λ (xs : List (List (List Move))). length xs) lists ∙ length-set old.undo.lists k stack in
    let slots = slice_set (slots_of old.sessions k) session (Some (revision_of old k + 1)) in
    counted_own k session mid new (rows_by_undo k old undo same rows) counts
    ∙ ap (λ (xs : List (List Move)). team_of now (revision_of old k + 1) (entries_of (places_of now) xs) slots (padding_of old k))
    (ap (λ (xs : List (List (List Move))). slice_index_or xs k []) lists ∙ get_or-set_same old.undo.lists k stack [] rows.undo)
    ∙ ap (λ (es : List (List (Option Place))). team_of now (revision_of old k + 1) es slots (padding_of old k))
    (grow_entries (places_of before) (places_of now) moves (stack_of old.undo k) old.undo.limit have.places)

-- ---- a change of a whole team

-- the team with the recorded change is the one of the rules
pub recorded_team : (t : TeamRules) (k session : ℕ) (old new : Tables) (now : List Cell) → old.undo.limit ≡ t.frame.limits.undo
    → own_team k new ≡ team_after_change k session (table_cells k old) now old → own_team k new ≡ (recorded t session now (own_team k old)).team
recorded_team t k session old new now limit is =
    let s = own_team k old in
    is ∙ ap (λ (n : ℕ). (changed session now (take n (places_of s.cells ∷ s.entries)) s).team) limit

-- the team whose cells are moved back
pub back_to : (k : ℕ) (old : Tables) (placing : Placing) → cells_of placing.cells k ≡ table_cells k old
    → own_team k (record old { placement = placing }) ≡ own_team k old
back_to k old placing back = ap (λ (cs : List Cell). team_with k cs old) back

-- ---- revert

pub reverted_reaches : (t : TeamRules) (k session revision : ℕ) (old new : Tables) (now : List Cell) → old.undo.limit ≡ t.frame.limits.undo
    → now ≡ map back_to_committed (table_cells k old) → own_team k new ≡ team_after_change k session (table_cells k old) now old → revision ≡ revision_of old k + 1
    → IsOutcome (reverted t session (own_team k old)) (Revision revision) (own_team k new)
unfolding reverted
reverted_reaches t k session revision old new now limit back is reported =
    let s = own_team k old in
    record {
      reply_is = ap Revision reported;
      team_is = recorded_team t k session old new now limit is ∙ ap (λ (cs : List Cell). (recorded t session cs s).team) back;
    }

pub reverted_short : (t : TeamRules) (session : ℕ) (s new : TeamState) → new ≡ s → IsOutOfMemory (reverted t session s) s new
unfolding reverted
reverted_short t session s new team_after_change = record { kept = team_after_change; may = refl }

-- ---- tidy

pub tidied_reaches : (t : TeamRules) (k session revision count : ℕ) (old new : Tables) (now : List Cell) (tidy : Tidy)
    → old.undo.limit ≡ t.frame.limits.undo → TidiesCells t (table_cells k old) now tidy → tidy ≡ Done count → SameButPlaces (table_cells k old) now
    → own_team k new ≡ team_after_change k session (table_cells k old) now old → revision ≡ revision_of old k + 1
    → IsOutcome (tidied_team t session (own_team k old)) (TidyDone revision count) (own_team k new)
tidied_reaches t k session revision count old new now tidy limit tidies is same left reported =
    let s = own_team k old in
    let outcome : tidied_team t session s ≡ with_reply (TidyDone (s.revision + 1) count) (recorded t session now s) =
    tidied_done t session s now count (subst (λ (x : Tidy). TidiesCells t (table_cells k old) now x) is tidies) same in
    rw outcome record { reply_is = ap (λ (n : ℕ). TidyDone n count) reported; team_is = recorded_team t k session old new now limit left }

pub stuck_reaches : (t : TeamRules) (session own : ℕ) (s new : TeamState) (mid : List Cell) (tidy : Tidy) → TidiesCells t s.cells mid tidy → tidy ≡ Stopped own
    → new ≡ s
    → IsOutcome (tidied_team t session s) (Refused (NoPlace own)) new
stuck_reaches t session own s new mid tidy tidies is team_after_change =
    rw (tidied_stuck t session s mid own (subst (λ (x : Tidy). TidiesCells t s.cells mid x) is tidies)) record { reply_is = refl; team_is = team_after_change }

pub tidy_short : (t : TeamRules) (session : ℕ) (s new : TeamState) → new ≡ s → IsOutOfMemory (tidied_team t session s) s new
tidy_short t session s new team_after_change = record { kept = team_after_change; may = tidied_short t session s }
