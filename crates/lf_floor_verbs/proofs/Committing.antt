-- The outcome of a commit.
use Rattle.std.proofs.Common.{◌≡◌, ℕ, ◌+◌, List, [], ◌∷◌, map, Option, Some, None, true, refl, ap, sym, ◌∙◌}
use Rattle.std.specs.Prelude.{slice_get, slice_set}
use Rattle.lf_floorplan.specs.declared.place.Place.{Place}
use Rattle.lf_reports.specs.declared.broken_cell.BrokenCell.{BrokenCell}
use Rattle.lf_proto.specs.declared.reply.Reply.TheVariants.{Revision}
use Rattle.lf_proto.specs.declared.reply.Refusal.TheVariants.{Illegal, Unplaced}
use Rattle.lf_cells.specs.declared.cell.Cell.{Cell}
use Rattle.lf_cells.specs.Cells.{as_committed, cells_of}
use Rattle.lf_sessions.specs.Slots.{slots_of}
use Rattle.lf_undo.specs.Entries.{entries_of}
use Rattle.lf_undo.specs.Stacks.{stack_of}
use Rattle.lf_floor_model.specs.States.{TeamState}
use Rattle.lf_floor_model.specs.Teams.{TeamRules}
use Rattle.lf_floor_model.specs.Outcomes.{Outcome, IsOutcome, IsOutOfMemory, changed, may_be_short, places_of, refused}
use Rattle.lf_floor_model.specs.Changes.{broken_cells, committed, committed_unless, first_unplaced}
use Rattle.lf_floor_verbs.specs.declared.tables.Tables.{Tables}
use Rattle.lf_placement.specs.Placements.{KeepsRest, Placing}
use Rattle.lf_placement.proofs.Changing.{macs_committed}
use Rattle.lf_floor_verbs.specs.Tables.{CountsChange, EntriesFit, HasRows, table_cells, own_team, padding_of, revision_of}
use Rattle.lf_floor_verbs.proofs.Fitting.{entries_as, same_rooms}
use Rattle.lf_floor_verbs.proofs.Ends.{counted_own, team_of}

same_some : {X : Type 0} {x y : X} → Some x ≡ Some y → x ≡ y
same_some e = cc

pub commit_unplaced : (t : TeamRules) (session cell : ℕ) (s : TeamState) → Some cell ≡ first_unplaced s.cells → committed t session s ≡ refused (Unplaced cell) s
unfolding committed
commit_unplaced t session cell s is = ap (λ (o : Option ℕ). committed_unless o (broken_cells t s.cells) session s) (sym is)

all_placed : (t : TeamRules) (session : ℕ) (s : TeamState) → None ≡ first_unplaced s.cells
    → committed t session s ≡ committed_unless None (broken_cells t s.cells) session s
unfolding committed
all_placed t session s none = ap (λ (o : Option ℕ). committed_unless o (broken_cells t s.cells) session s) (sym none)

pub commit_illegal : (t : TeamRules) (session : ℕ) (s : TeamState) (b : BrokenCell) → None ≡ first_unplaced s.cells
    → Some b ≡ slice_get (broken_cells t s.cells) 0
    → committed t session s ≡ refused (Illegal b.broken.rule b.own b.broken.other) s
commit_illegal t session s b none first = all_placed t session s none ∙ go (broken_cells t s.cells) first where
  go : (bs : List BrokenCell) → Some b ≡ slice_get bs 0 → committed_unless None bs session s ≡ refused (Illegal b.broken.rule b.own b.broken.other) s
  go [] e = absurd cc
  go (x ∷ xs) e = ap (λ (y : BrokenCell). refused (Illegal y.broken.rule y.own y.broken.other) s) (sym (same_some e))

pub commit_short : (t : TeamRules) (session : ℕ) (s : TeamState) → None ≡ first_unplaced s.cells → IsOutOfMemory (committed t session s) s s
commit_short t session s none =
    record { kept = refl; may = ap (λ (o : Outcome). may_be_short o.reply) (all_placed t session s none) ∙ go (broken_cells t s.cells) } where
      go : (bs : List BrokenCell) → may_be_short (committed_unless None bs session s).reply ≡ true
      go [] = refl
      go (x ∷ xs) = refl

none_broken : (t : TeamRules) (session : ℕ) (s : TeamState) → None ≡ first_unplaced s.cells → None ≡ slice_get (broken_cells t s.cells) 0
    → committed t session s ≡ changed session (map as_committed s.cells) s.entries s
none_broken t session s none first = all_placed t session s none ∙ go (broken_cells t s.cells) first where
  go : (bs : List BrokenCell) → None ≡ slice_get bs 0 → committed_unless None bs session s ≡ changed session (map as_committed s.cells) s.entries s
  go [] e = refl
  go (x ∷ xs) e = absurd cc

places_stay : (cells : List Cell) → places_of (map as_committed cells) ≡ places_of cells
places_stay [] = refl
places_stay (c ∷ cs) = ap (λ (r : List (Option Place)). c.working ∷ r) (places_stay cs)

pub committed_reaches : (t : TeamRules) (k session revision : ℕ) (old new : Tables) (placing : Placing) → HasRows k old
    → None ≡ first_unplaced (table_cells k old) → None ≡ slice_get (broken_cells t (table_cells k old)) 0
    → cells_of placing.cells k ≡ map as_committed (table_cells k old) → CountsChange k session (record old { placement = placing }) new
    → revision ≡ revision_of old k + 1
    → IsOutcome (committed t session (own_team k old)) (Revision revision) (own_team k new)
committed_reaches t k session revision old new placing rows none first are counts reported =
    let s = own_team k old in
    let mid : Tables = record old { placement = placing } in
    let now = map as_committed s.cells in
    let slots = slice_set (slots_of old.sessions k) session (Some (revision_of old k + 1)) in
    let outcome = none_broken t session s none first in
    record {
      reply_is = ap Revision reported ∙ ap (λ (o : Outcome). o.reply) (sym outcome);
      team_is =
          counted_own k session mid new (record { undo = rows.undo; sessions = rows.sessions; revisions = rows.revisions; paddings = rows.paddings }) counts
          ∙ ap (λ (cs : List Cell). team_of cs (revision_of old k + 1) (entries_of (places_of cs) (stack_of old.undo k)) slots (padding_of old k)) are
          ∙ ap (λ (ps : List (Option Place)). team_of now (revision_of old k + 1) (entries_of ps (stack_of old.undo k)) slots (padding_of old k)) (places_stay s.cells)
          ∙ ap (λ (o : Outcome). o.team) (sym outcome);
    }

-- the entries are the same, and their places still fit
pub committed_fit : (k session : ℕ) (old new : Tables) (placing : Placing) → HasRows k old → cells_of placing.cells k ≡ map as_committed (table_cells k old)
    → KeepsRest old.placement placing → CountsChange k session (record old { placement = placing }) new → EntriesFit k old → EntriesFit k new
committed_fit k session old new placing rows are rest counts fit =
    let mid : Tables = record old { placement = placing } in
    let entries : (own_team k new).entries ≡ (own_team k old).entries =
    ap (λ (s : TeamState). s.entries) (counted_own k session mid new (record { undo = rows.undo; sessions = rows.sessions; revisions = rows.revisions; paddings = rows.paddings }) counts)
    ∙ ap (λ (cs : List Cell). entries_of (places_of cs) (stack_of old.undo k)) are
    ∙ ap (λ (ps : List (Option Place)). entries_of ps (stack_of old.undo k)) (places_stay (table_cells k old)) in
    entries_as k old new (rw counts.placement (same_rooms old.placement placing rest))
    (rw (counts.placement, are) (macs_committed (table_cells k old))) entries fit
