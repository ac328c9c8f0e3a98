-- The effect on a team of reverting the newest undo entry.
use Rattle.std.proofs.Common.{◌≡◌, ℕ, suc, ◌+◌, List, [], ◌∷◌, length, drop, map, Option, Some, None, refl, ap, sym, ◌∙◌, subst, arith}
use Rattle.std.specs.Prelude.{All, slice_get, slice_set, slice_index_or}
use Rattle.std.proofs.lemmas.List.{length-map, length-set, get_or-set_same}
use Rattle.lf_floorplan.specs.declared.place.Place.{Place}
use Rattle.lf_proto.specs.declared.reply.Reply.TheVariants.{Revision, Refused}
use Rattle.lf_proto.specs.declared.reply.Refusal.TheVariants.{NothingToUndo}
use Rattle.lf_cells.specs.declared.cell.Cell.{Cell}
use Rattle.lf_cells.specs.Cells.{cells_of}
use Rattle.lf_sessions.specs.Slots.{slots_of}
use Rattle.lf_undo.specs.declared.moves.Move.{Move}
use Rattle.lf_undo.specs.Stacks.{Stacks, stack_of}
use Rattle.lf_undo.specs.Entries.{entries_of, moves_taken_back}
use Rattle.lf_undo.proofs.Undone.{no_entries, shrink_entries, taken_back_length}
use Rattle.lf_floor_model.specs.States.{TeamState}
use Rattle.lf_floor_model.specs.Outcomes.{Outcome, IsOutcome, changed, places_of}
use Rattle.lf_floor_model.specs.Changes.{restored, undone, undone_by}
use Rattle.lf_floor_verbs.specs.declared.tables.Tables.{Tables}
use Rattle.lf_placement.specs.Placements.{Fits, HaveMoved, KeepsRest, OtherCellsStay, Placing, SameButPlaces, without_place}
use Rattle.lf_floor_verbs.specs.Tables.{CountsChange, EntriesFit, HasRows, OnlyMovesTeam, table_cells, own_team, padding_of, revision_of}
use Rattle.lf_floor_verbs.proofs.Ends.{counted_own, team_of}
use Rattle.lf_floor_verbs.proofs.Fitting.{fits_only, only_same}

places_restored : (places : List (Option Place)) (cells : List Cell) → length places ≡ length cells → places_of (restored places cells) ≡ places
places_restored [] [] same = refl
places_restored [] (c ∷ cs) same = absurd cc
places_restored (p ∷ ps) [] same = absurd cc
places_restored (p ∷ ps) (c ∷ cs) same = let rest : length ps ≡ length cs = cc in ap (λ (r : List (Option Place)). p ∷ r) (places_restored ps cs rest)

same_restored : (places : List (Option Place)) (cells : List Cell) → SameButPlaces cells (restored places cells)
same_restored [] cells = refl
same_restored (p ∷ ps) [] = refl
same_restored (p ∷ ps) (c ∷ cs) = ap (λ (r : List Cell). without_place c ∷ r) (same_restored ps cs)

-- the cells at the places before these moves
abbrev pub cells_before : List Move → List Cell → List Cell
cells_before moves cells = restored (moves_taken_back moves (places_of cells)) cells

places_before : (moves : List Move) (cells : List Cell) → places_of (cells_before moves cells) ≡ moves_taken_back moves (places_of cells)
places_before moves cells =
    places_restored (moves_taken_back moves (places_of cells)) cells (taken_back_length moves (places_of cells) ∙ length-map cells (λ (c : Cell). c.working))

-- the moves lead from these places to the present ones
pub led_from : (moves : List Move) (cells : List Cell) → HaveMoved (cells_before moves cells) moves cells
led_from moves cells = record { places = sym (places_before moves cells); same = sym (same_restored (moves_taken_back moves (places_of cells)) cells) }

-- the team after the moves of its newest entry were reverted
pub undone_reaches : (k session revision : ℕ) (moves : List Move) (old new : Tables) (undo : Stacks (List Move)) (placing : Placing) → HasRows k old
    → Some moves ≡ slice_get (stack_of old.undo k) 0 → undo.lists ≡ slice_set old.undo.lists k (drop 1 (stack_of old.undo k))
    → cells_of placing.cells k ≡ cells_before moves (table_cells k old)
    → CountsChange k session (record old { placement = placing; undo = undo }) new → revision ≡ revision_of old k + 1
    → IsOutcome (undone session (own_team k old)) (Revision revision) (own_team k new)
unfolding undone
undone_reaches k session revision moves old new undo placing rows front lists back counts reported =
    let now = table_cells k old in
    let before = cells_before moves now in
    let stack = stack_of old.undo k in
    let s = own_team k old in
    let mid : Tables = record old { placement = placing; undo = undo } in
    let slots = slice_set (slots_of old.sessions k) session (Some (revision_of old k + 1)) in
    let same : length undo.lists ≡ length old.undo.lists = ap (λ (xs : List (List (List Move))). length xs) lists ∙ length-set old.undo.lists k (drop 1 stack) in
    let there : HasRows k mid = record { undo = rw same rows.undo; sessions = rows.sessions; revisions = rows.revisions; paddings = rows.paddings } in
    let entries : entries_of (places_of before) (drop 1 stack) ≡ entries_of (moves_taken_back moves (places_of now)) (drop 1 stack) =
    ap (λ (ps : List (Option Place)). entries_of ps (drop 1 stack)) (places_before moves now) in
    let outcome : undone_by s.entries session s ≡ changed session before (entries_of (moves_taken_back moves (places_of now)) (drop 1 stack)) s =
    ap (λ (es : List (List (Option Place))). undone_by es session s) (shrink_entries (places_of now) moves stack (sym front)) in
    let left : stack_of undo k ≡ drop 1 stack =
    ap (λ (xs : List (List (List Move))). slice_index_or xs k []) lists ∙ get_or-set_same old.undo.lists k (drop 1 stack) [] rows.undo in
    record {
      reply_is = ap Revision reported ∙ ap (λ (o : Outcome). o.reply) (sym outcome);
      team_is =
          counted_own k session mid new there counts
          ∙ ap (λ (cs : List Cell). team_of cs (revision_of old k + 1) (entries_of (places_of cs) (stack_of undo k)) slots (padding_of old k)) back
          ∙ ap (λ (xs : List (List Move)). team_of before (revision_of old k + 1) (entries_of (places_of before) xs) slots (padding_of old k)) left
          ∙ ap (λ (es : List (List (Option Place))). team_of before (revision_of old k + 1) es slots (padding_of old k)) entries
          ∙ ap (λ (o : Outcome). o.team) (sym outcome);
    }

-- without an entry there is nothing to undo
pub none_reaches : (k session : ℕ) (old : Tables) → None ≡ slice_get (stack_of old.undo k) 0
    → IsOutcome (undone session (own_team k old)) (Refused NothingToUndo) (own_team k old)
unfolding undone
none_reaches k session old none =
    let s = own_team k old in
    let outcome : undone_by s.entries session s ≡ undone_by [] session s =
    ap (λ (es : List (List (Option Place))). undone_by es session s) (no_entries (places_of (table_cells k old)) (stack_of old.undo k) (sym none)) in
    record { reply_is = ap (λ (o : Outcome). o.reply) (sym outcome); team_is = ap (λ (o : Outcome). o.team) (sym outcome) }

-- ---- what fits

module _ (k session : ℕ) (moves : List Move) (old : Tables) (front : Some moves ≡ slice_get (stack_of old.undo k) 0) (fit : EntriesFit k old) where
  abbrev Places : Type 0
  Places = List (Option Place)

  abbrev head : Places
  head = moves_taken_back moves (places_of (table_cells k old))

  abbrev tail : List Places
  tail = entries_of head (drop 1 (stack_of old.undo k))

  entries_are : (own_team k old).entries ≡ head ∷ tail
  entries_are = shrink_entries (places_of (table_cells k old)) moves (stack_of old.undo k) (sym front)

  all_of : All (λ (places : Places). Fits old.placement k places) (head ∷ tail)
  all_of = subst (λ (es : List Places). All (λ (places : Places). Fits old.placement k places) es) entries_are fit

  -- the cells fit at the places of the newest entry
  pub newest_fits : Fits old.placement k head
  newest_fits = all_of 0 [] (omega arith)

  -- afterwards they fit at the places of the other entries
  pub undone_fit : (new : Tables) → own_team k new ≡ (undone session (own_team k old)).team → OnlyMovesTeam k old.placement new.placement → EntriesFit k new
  unfolding undone
  undone_fit new is only =
      let entries : (own_team k new).entries ≡ tail =
      ap (λ (s : TeamState). s.entries) is ∙ ap (λ (es : List Places). (undone_by es session (own_team k old)).team.entries) entries_are in
      subst (λ (es : List Places). All (λ (places : Places). Fits new.placement k places) es) (sym entries)
      (λ i d within. fits_only k old.placement new.placement _ only (all_of (suc i) d (omega (arith, within))))

-- only places change
pub undone_moves : (k : ℕ) (moves : List Move) (old back new : Placing) → new ≡ back
    → ((before : List Cell) → HaveMoved before moves (cells_of old.cells k) → cells_of back.cells k ≡ before)
    → OtherCellsStay k old.cells back.cells → KeepsRest old back → OnlyMovesTeam k old new
undone_moves k moves old back new is own others rest =
    let now = cells_of old.cells k in
    rw is (only_same k old back
    (ap (λ (cs : List Cell). map without_place cs) (own (cells_before moves now) (led_from moves now)) ∙ same_restored (moves_taken_back moves (places_of now)) now)
    others rest)
