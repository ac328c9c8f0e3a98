-- Worked rows: the outcomes of verbs on a team of three cells, given what the legalizer finds.
use Rattle.std.specs.Prelude.{◌≡◌, ℕ, ◌<◌, List, [], ◌∷◌, Option, Some, None, map, replicate, codes}
use Rattle.lf_units.specs.declared.geometry.Point.{Point}
use Rattle.lf_floorplan.specs.declared.place.Place.{Place}
use Rattle.lf_rules.specs.declared.rule.Rule.TheVariants.{Overlap}
use Rattle.lf_rules.specs.declared.padding.Padding.{Padding}
use Rattle.lf_rules.specs.Tidy.{Going, Stuck, tidied}
use Rattle.lf_proto.specs.declared.request.TeamCommand.{TeamCommand}
use Rattle.lf_proto.specs.declared.request.TeamCommand.TheVariants.{Open, Within}
use Rattle.lf_proto.specs.declared.verb.Action.TheVariants.{Close, Sync, Where, Find, Change as Changing}
use Rattle.lf_proto.specs.declared.verb.Change.{Change}
use Rattle.lf_proto.specs.declared.verb.Change.TheVariants.{Place as PlaceAt, Legalize, Tidy, Unplace, Swap, Undo, Commit, Revert, Pad}
use Rattle.lf_proto.specs.declared.reply.Reply.{Reply}
use Rattle.lf_proto.specs.declared.reply.Reply.TheVariants.{Done, Opened, Revision, At, Legalized, Tidied as TidyDone, Refused}
use Rattle.lf_proto.specs.declared.reply.Refusal.TheVariants.{NoSession, Stale, NoCell, Unplaced, Illegal, NoPlace, NothingToUndo, SessionsFull, RevisionsSpent}
use Rattle.lf_cells.specs.declared.cell.Cell.{Cell}
use Rattle.lf_floor_model.specs.States.{TeamState}
use Rattle.lf_floor_model.specs.Teams.{TeamRules, broken_at}
use Rattle.lf_legalize.specs.Members.{member_of}
use Rattle.lf_floor_model.specs.Queries.{best_at}
use Rattle.lf_floor_model.specs.Changes.{broken_where, exchanged, broken_cells}
use Rattle.lf_floor_model.specs.Verbs.{outcome_of}

-- the replies to these verbs, run in order
abbrev pub replies_to : TeamRules → List (TeamCommand (List ℕ) Place) → TeamState → List Reply
replies_to t [] s = []
replies_to t (verb ∷ verbs) s = (outcome_of t verb s).reply ∷ replies_to t verbs (outcome_of t verb s).team

-- a cell with that name, macro and working place, and no committed place
abbrev pub row_cell : List ℕ → ℕ → Option Place → Cell
row_cell name mac place = record { name = name; mac = mac; working = place; committed = None }

-- the cells a1 and a2 of one macro, and a3 of another, at these working places
abbrev pub three : Option Place → Option Place → Option Place → List Cell
three p q r = row_cell (codes "a1") 0 p ∷ row_cell (codes "a2") 0 q ∷ row_cell (codes "a3") 1 r ∷ []

-- a team that has made this many changes; its one session has seen the last of them
abbrev pub team_after : ℕ → List (List (Option Place)) → List Cell → TeamState
team_after revision entries cells = record {
  cells = cells;
  revision = revision;
  entries = entries;
  slots = Some revision ∷ [];
  padding = 0;
}

-- that session's query for a cell's place
abbrev pub where_is : List ℕ → TeamCommand (List ℕ) Place
where_is name = Within 0 (Where name)

-- that session's change
abbrev pub change_to : Change (List ℕ) Place → TeamCommand (List ℕ) Place
change_to change = Within 0 (Changing change)

-- enough revisions and undo entries for each row
pub record HasRoomForRows (t : TeamRules) : Type 0 where
  pub revisions : 9 < t.frame.limits.revisions
  pub undo : t.frame.limits.undo ≡ 64

-- eight sessions are opened, a ninth is refused; after a close the next open gets the free slot
abbrev pub SessionRow : Type 0
SessionRow =
    (t : TeamRules) (cells : List Cell) →
    replies_to t
    (Open ∷ Open ∷ Open ∷ Open ∷ Open ∷ Open ∷ Open ∷ Open ∷ Open ∷ Within 3 Close ∷ Open ∷ Within 9
    (Where (codes "zz")) ∷ [])
    (record { cells = cells; revision = 0; entries = []; slots = replicate 8 None; padding = 0 })
    ≡ (Opened 0 0 ∷ Opened 1 0 ∷ Opened 2 0 ∷ Opened 3 0 ∷ Opened 4 0 ∷ Opened 5 0 ∷ Opened 6 0 ∷ Opened 7 0
    ∷ Refused SessionsFull
    ∷ Done ∷ Opened 3 0 ∷ Refused NoSession ∷ [])

-- a session that has not seen the last change is stale until it has synchronized
abbrev pub StaleRow : Type 0
StaleRow =
    (t : TeamRules) (p q : Place) → HasRoomForRows t → broken_at t (three (Some p) None None) 1 q ≡ None →
    let place = Within 1 (Changing (PlaceAt (codes "a2") q)) in
    replies_to t (place ∷ Within 1 Sync ∷ place ∷ Within 1 (Where (codes "a2")) ∷ [])
    (record {
      cells = three (Some p) None None;
      revision = 1;
      entries = (None ∷ None ∷ None ∷ []) ∷ [];
      slots = Some 1 ∷ Some 0 ∷ [];
      padding = 0;
    })
    ≡ (Refused (Stale 1) ∷ Revision 1 ∷ Revision 2 ∷ At q ∷ [])

-- with two undo entries allowed, three changes are made, and a third undo finds no entry
abbrev pub UndoRow : Type 0
UndoRow =
    (t : TeamRules) (p q r : Place) → 9 < t.frame.limits.revisions → t.frame.limits.undo ≡ 2 →
    broken_at t (three None None None) 0 p ≡ None → broken_at t (three (Some p) None None) 1 q
    ≡ None → broken_at t (three (Some p) (Some q) None) 2 r ≡ None →
    replies_to t
    (change_to (PlaceAt (codes "a1") p) ∷ change_to (PlaceAt (codes "a2") q) ∷ change_to (PlaceAt (codes "a3") r)
    ∷ change_to Undo ∷ change_to Undo ∷ change_to Undo ∷ where_is (codes "a1") ∷ where_is (codes "a2")
    ∷ where_is (codes "a3") ∷ [])
    (team_after 0 [] (three None None None))
    ≡ (Revision 1 ∷ Revision 2 ∷ Revision 3 ∷ Revision 4 ∷ Revision 5 ∷ Refused NothingToUndo ∷ At p
    ∷ Refused (Unplaced 1) ∷ Refused (Unplaced 2) ∷ [])

-- at the revision limit no change is made, undo included
abbrev pub SpentRow : Type 0
SpentRow =
    (t : TeamRules) (change : Change (List ℕ) Place) (entries : List (List (Option Place))) (cells : List Cell)
    → t.frame.limits.revisions ≡ 3 →
    replies_to t (change_to change ∷ []) (team_after 3 entries cells) ≡ (Refused RevisionsSpent ∷ [])

-- find changes nothing, and legalize moves the cell to the place that find returns
abbrev pub BestRow : Type 0
BestRow =
    (t : TeamRules) (target : Point) (best : Place) → HasRoomForRows t
    → best_at t (three None None None) 0 target ≡ Some best →
    replies_to t
    (Within 0 (Find (codes "a1") target) ∷ where_is (codes "a1") ∷ change_to (Legalize (codes "a1") target)
    ∷ where_is (codes "a1") ∷ [])
    (team_after 0 [] (three None None None))
    ≡ (At best ∷ Refused (Unplaced 0) ∷ Legalized 1 best ∷ At best ∷ [])

-- find, legalize and tidy are refused if a cell has no best place, though tidy finds places for the
-- two earlier cells; nothing is changed
abbrev pub NoPlaceRow : Type 0
NoPlaceRow =
    (t : TeamRules) (target : Point) → HasRoomForRows t → best_at t (three None None None) 2 target ≡ None →
    tidied t.legalizer t.frame t.number t.padding (map member_of (three None None None)) ≡ Stuck 2 →
    replies_to t
    (Within 0 (Find (codes "a3") target) ∷ change_to (Legalize (codes "a3") target) ∷ change_to Tidy
    ∷ where_is (codes "a1") ∷ change_to Undo ∷ [])
    (team_after 0 [] (three None None None))
    ≡ (Refused (NoPlace 2) ∷ Refused (NoPlace 2) ∷ Refused (NoPlace 2) ∷ Refused (Unplaced 0)
    ∷ Refused NothingToUndo ∷ [])

-- the reply to a tidy counts the cells moved to their best place
abbrev pub TidyRow : Type 0
TidyRow =
    (t : TeamRules) (p q r : Place) → HasRoomForRows t →
    tidied t.legalizer t.frame t.number t.padding (map member_of (three None None None))
    ≡ Going (map member_of (three (Some p) (Some q) (Some r))) 3 →
    replies_to t (change_to Tidy ∷ where_is (codes "a1") ∷ where_is (codes "a2") ∷ where_is (codes "a3") ∷ [])
    (team_after 0 [] (three None None None))
    ≡ (TidyDone 1 3 ∷ At p ∷ At q ∷ At r ∷ [])

-- after a tidy and a query the team can be committed
abbrev pub TidyCommitRow : Type 0
TidyCommitRow =
    (t : TeamRules) (p q r : Place) → HasRoomForRows t →
    tidied t.legalizer t.frame t.number t.padding (map member_of (three None None None))
    ≡ Going (map member_of (three (Some p) (Some q) (Some r))) 3 →
    broken_cells t (three (Some p) (Some q) (Some r)) ≡ [] →
    replies_to t (change_to Tidy ∷ where_is (codes "a3") ∷ change_to Commit ∷ [])
    (team_after 0 [] (three None None None))
    ≡ (TidyDone 1 3 ∷ At r ∷ Revision 2 ∷ [])

-- after a commit, revert restores the place of an unplaced cell
abbrev pub CommitRow : Type 0
CommitRow =
    (t : TeamRules) (p q r : Place) → HasRoomForRows t → broken_cells t (three (Some p) (Some q) (Some r)) ≡ [] →
    replies_to t
    (change_to Commit ∷ change_to (Unplace (codes "a1")) ∷ change_to (Unplace (codes "a1")) ∷ change_to Revert
    ∷ where_is (codes "a1") ∷ [])
    (team_after 1 [] (three (Some p) (Some q) (Some r)))
    ≡ (Revision 2 ∷ Revision 3 ∷ Refused (Unplaced 0) ∷ Revision 4 ∷ At p ∷ [])

-- a commit with an unplaced cell is refused, and the reply for a cell of another team is NoCell
abbrev pub RefusedRow : Type 0
RefusedRow =
    (t : TeamRules) (p q : Place) → HasRoomForRows t →
    replies_to t (change_to Commit ∷ change_to (PlaceAt (codes "b1") q) ∷ change_to (Swap (codes "a2") (codes "b1"))
    ∷ change_to (Swap (codes "a2") (codes "a3")) ∷ [])
    (team_after 1 [] (three (Some p) None None))
    ≡ (Refused (Unplaced 1) ∷ Refused NoCell ∷ Refused NoCell ∷ Refused (Unplaced 1) ∷ [])

-- a1 and a2 exchange their places, undo exchanges them back, and the swap of a1 and a3 is refused
-- because a3 would overlap a2
abbrev pub SwapRow : Type 0
SwapRow =
    (t : TeamRules) (p q r : Place) → HasRoomForRows t →
    let cells = three (Some p) (Some q) (Some r) in
    broken_where t (exchanged cells 0 1) 0 ≡ None → broken_where t (exchanged cells 0 1) 1 ≡ None →
    broken_where t (exchanged cells 0 2) 0 ≡ None → broken_where t (exchanged cells 0 2) 2
    ≡ Some (record { rule = Overlap; other = Some 1 }) →
    replies_to t
    (change_to (Swap (codes "a1") (codes "a2")) ∷ where_is (codes "a1") ∷ change_to Undo
    ∷ change_to (Swap (codes "a1") (codes "a3")) ∷ [])
    (team_after 3 [] cells)
    ≡ (Revision 4 ∷ At q ∷ Revision 5 ∷ Refused (Illegal Overlap 2 (Some 1)) ∷ [])

-- pad moves no cell, and undo reverts the change before the pad and not the padding
abbrev pub PadRow : Type 0
PadRow =
    (t : TeamRules) (padding : Padding) (p q : Place) → HasRoomForRows t
    → broken_at t (three (Some p) None None) 1 q ≡ None →
    replies_to t
    (change_to (PlaceAt (codes "a2") q) ∷ change_to (Pad padding) ∷ where_is (codes "a2") ∷ change_to Undo
    ∷ where_is (codes "a2") ∷ [])
    (team_after 0 [] (three (Some p) None None))
    ≡ (Revision 1 ∷ Revision 2 ∷ At q ∷ Revision 3 ∷ Refused (Unplaced 1) ∷ [])

-- the worked rows
pub record VerbRows : Type 0 where
  pub sessions : SessionRow
  pub stale : StaleRow
  pub undo : UndoRow
  pub spent : SpentRow
  pub best : BestRow
  pub no_place : NoPlaceRow
  pub tidy : TidyRow
  pub tidy_commit : TidyCommitRow
  pub commit : CommitRow
  pub refused : RefusedRow
  pub swap : SwapRow
  pub pad : PadRow
