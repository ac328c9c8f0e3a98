-- Laws on the outcomes of the verbs of the command table.
use Rattle.std.specs.Prelude.{◌≡◌, ◌≢◌, ℕ, ◌+◌, ◌<◌, List, Option, Some, None, Bool, true, false, map, slice_get, option_map}
use Rattle.lf_units.specs.declared.geometry.Point.{Point}
use Rattle.lf_floorplan.specs.declared.place.Place.{Place}
use Rattle.lf_rules.specs.Choice.{IsChoice, spot_of}
use Rattle.lf_rules.specs.declared.padding.Padding.{Padding}
use Rattle.lf_rules.specs.Team.{IsLegalCell}
use Rattle.lf_rules.specs.Tidy.{Stuck, tidied}
use Rattle.lf_proto.specs.declared.request.TeamCommand.{TeamCommand}
use Rattle.lf_proto.specs.declared.request.TeamCommand.TheVariants.{Within}
use Rattle.lf_proto.specs.declared.verb.Action.TheVariants.{Change as Changing}
use Rattle.lf_proto.specs.declared.verb.Change.{Change}
use Rattle.lf_proto.specs.declared.verb.Change.TheVariants.{Place as PlaceAt, Legalize, Tidy, Swap, Undo, Commit, Revert, Pad}
use Rattle.lf_proto.specs.declared.reply.Reply.{Reply}
use Rattle.lf_proto.specs.declared.reply.Reply.TheVariants.{Revision, Legalized, Tidied as TidyDone, Refused}
use Rattle.lf_proto.specs.declared.reply.Refusal.{Refusal}
use Rattle.lf_proto.specs.declared.reply.Refusal.TheVariants.{NoPlace}
use Rattle.lf_cells.specs.declared.cell.Cell.{Cell}
use Rattle.lf_floor_model.specs.States.{TeamState}
use Rattle.lf_floor_model.specs.Teams.{TeamRules, IsTeamOf, query_of_cell}
use Rattle.lf_cells.specs.Cells.{cell_named}
use Rattle.lf_legalize.specs.Members.{member_of}
use Rattle.lf_floor_model.specs.Outcomes.{Outcome, is_short, refused, places_of}
use Rattle.lf_floor_model.specs.Sessions.{seen_at}
use Rattle.lf_floor_model.specs.Queries.{best_at}
use Rattle.lf_floor_model.specs.Verbs.{is_recorded, outcome_of}

-- the outcome of a session's change
abbrev pub outcome_of_asking : TeamRules → ℕ → Change (List ℕ) Place → TeamState → Outcome
outcome_of_asking t session change s = outcome_of t (Within session (Changing change)) s

-- the reply is not a refusal
abbrev pub is_ok : Reply → Bool
is_ok (Refused refusal) = false
is_ok _ = true

-- the command was accepted
abbrev pub is_accepted : Outcome → Bool
is_accepted o = is_ok o.reply

-- the session has seen the team's revision, and the revision limit is not reached
pub record MayChange (t : TeamRules) (session : ℕ) (s : TeamState) : Type 0 where
  pub seen : seen_at s.slots session ≡ Some s.revision
  pub left : s.revision < t.frame.limits.revisions

-- ---- refusals

-- no verb's outcome is OutOfMemory: the rules do not depend on memory
abbrev pub NeverOutOfMemory : Type 0
NeverOutOfMemory = (t : TeamRules) (verb : TeamCommand (List ℕ) Place) (s : TeamState)
    → is_short (outcome_of t verb s).reply ≡ false

-- a refusal leaves the team unchanged
abbrev pub RefusalKeepsState : Type 0
RefusalKeepsState =
    (t : TeamRules) (verb : TeamCommand (List ℕ) Place) (s : TeamState) (refusal : Refusal)
    → (outcome_of t verb s).reply ≡ Refused refusal → (outcome_of t verb s).team ≡ s

-- a tidy in which a cell has no best place names that cell and leaves the team unchanged
abbrev pub RefusedTidyKeepsState : Type 0
RefusedTidyKeepsState =
    (t : TeamRules) (session stuck : ℕ) (s : TeamState) → MayChange t session s
    → tidied t.legalizer t.frame t.number t.padding (map member_of s.cells) ≡ Stuck stuck
    → outcome_of_asking t session Tidy s ≡ refused (NoPlace stuck) s

-- ---- revisions

-- the revision in the reply to a change
abbrev pub replied_revision : Reply → Option ℕ
replied_revision (Revision revision) = Some revision
replied_revision (Legalized revision place) = Some revision
replied_revision (TidyDone revision count) = Some revision
replied_revision _ = None

-- the revision is one more, the reply contains it, and this session has seen it and no other
pub record IsCounted (session : ℕ) (old : TeamState) (o : Outcome) : Type 0 where
  pub counted : o.team.revision ≡ old.revision + 1
  pub reported : replied_revision o.reply ≡ Some (old.revision + 1)
  pub seen : seen_at o.team.slots session ≡ Some (old.revision + 1)
  pub others : (other : ℕ) → other ≢ session → seen_at o.team.slots other ≡ seen_at old.slots other

-- an accepted change comes from a session that has seen the revision, the limit is not reached, and
-- one more revision is counted
pub record CountsOne (t : TeamRules) (session : ℕ) (old : TeamState) (o : Outcome) : Type 0 where
  pub allowed : MayChange t session old
  pub counts : IsCounted session old o

-- an accepted change counts one more revision
abbrev pub ChangeCounts : Type 0
ChangeCounts =
    (t : TeamRules) (session : ℕ) (change : Change (List ℕ) Place) (s : TeamState)
    → is_accepted (outcome_of_asking t session change s) ≡ true
    → CountsOne t session s (outcome_of_asking t session change s)

-- the verb is a change of the team
abbrev pub is_change : TeamCommand (List ℕ) Place → Bool
is_change (Within session (Changing change)) = true
is_change _ = false

-- the team has the same cells, revision, undo entries and padding
pub record KeepsCells (old new : TeamState) : Type 0 where
  pub cells : new.cells ≡ old.cells
  pub revision : new.revision ≡ old.revision
  pub entries : new.entries ≡ old.entries
  pub padding : new.padding ≡ old.padding

-- a verb that is not a change leaves cells, revision, undo entries and padding unchanged
abbrev pub QueryKeepsState : Type 0
QueryKeepsState = (t : TeamRules) (verb : TeamCommand (List ℕ) Place) (s : TeamState) → is_change verb ≡ false
    → KeepsCells s (outcome_of t verb s).team

-- ---- undo, commit and revert

-- an accepted change, after which the working places are these
pub record LeadsToPlaces (o : Outcome) (places : List (Option Place)) : Type 0 where
  pub reported : o.reply ≡ Revision o.team.revision
  pub places_are : places_of o.team.cells ≡ places

-- undo after an accepted place, legalize, tidy, unplace, swap or revert restores the previous
-- working places
abbrev pub UndoBringsBack : Type 0
UndoBringsBack =
    (t : TeamRules) (session other : ℕ) (change : Change (List ℕ) Place) (s : TeamState) →
    let after = outcome_of_asking t session change s in
    is_recorded change ≡ true → is_accepted after ≡ true → MayChange t other after.team
    → LeadsToPlaces (outcome_of_asking t other Undo after.team) (places_of s.cells)

-- revert after an accepted commit changes no working place
abbrev pub RevertAfterCommitKeeps : Type 0
RevertAfterCommitKeeps =
    (t : TeamRules) (session other : ℕ) (s : TeamState) →
    let after = outcome_of_asking t session Commit s in
    is_accepted after ≡ true → MayChange t other after.team
    → LeadsToPlaces (outcome_of_asking t other Revert after.team) (places_of s.cells)

-- the verb is a commit
abbrev pub is_commit : TeamCommand (List ℕ) Place → Bool
is_commit (Within session (Changing Commit)) = true
is_commit _ = false

-- the committed places, in loading order
abbrev pub committed_places : TeamState → List (Option Place)
committed_places s = map (λ c. c.committed) s.cells

-- only commit changes a committed place
abbrev pub OnlyCommitCommits : Type 0
OnlyCommitCommits =
    (t : TeamRules) (verb : TeamCommand (List ℕ) Place) (s : TeamState) → is_commit verb ≡ false
    → committed_places (outcome_of t verb s).team ≡ committed_places s

-- ---- padding

-- the verb is a pad
abbrev pub is_pad : TeamCommand (List ℕ) Place → Bool
is_pad (Within session (Changing (Pad padding))) = true
is_pad _ = false

-- only pad changes the padding
abbrev pub OnlyPadPads : Type 0
OnlyPadPads = (t : TeamRules) (verb : TeamCommand (List ℕ) Place) (s : TeamState) → is_pad verb ≡ false
    → (outcome_of t verb s).team.padding ≡ s.padding

-- the team has this padding; its working places, committed places and undo entries are unchanged
pub record IsPadded (sites : Padding) (old new : TeamState) : Type 0 where
  pub padding : new.padding ≡ sites.sites
  pub cells : new.cells ≡ old.cells
  pub entries : new.entries ≡ old.entries

-- a pad from a session that may change the team is accepted wherever the cells are placed, and
-- changes the padding and the revision alone
abbrev pub PadKeeps : Type 0
PadKeeps =
    (t : TeamRules) (session : ℕ) (padding : Padding) (s : TeamState) → MayChange t session s →
    let after = outcome_of_asking t session (Pad padding) s in
    (after.reply ≡ Revision (s.revision + 1)) × IsPadded padding s after.team

-- ---- legal places

-- the place that find and legalize choose is the best place; they find no place only if no place is
-- legal for the cell
abbrev pub BestIsFound : Type 0
BestIsFound =
    (t : TeamRules) (s : TeamState) (own : ℕ) (c : Cell) (target : Point) → IsTeamOf t.frame s
    → slice_get s.cells own ≡ Some c
    → IsChoice (query_of_cell t s.cells own c) target (option_map spot_of (best_at t s.cells own target))

-- every cell of the team is placed and team-legal
abbrev pub AreLegal : TeamRules → TeamState → Type 0
AreLegal t s = (own : ℕ) → IsLegalCell t.frame t.number t.padding (map member_of s.cells) own

-- the team has a cell of that name, which is placed and team-legal
pub record HasLegal (t : TeamRules) (name : List ℕ) (s : TeamState) : Type 0 where
  pub own : ℕ
  pub named : cell_named name s.cells ≡ Some own
  pub legal : IsLegalCell t.frame t.number t.padding (map member_of s.cells) own

-- after an accepted tidy every cell of the team is placed and team-legal
abbrev pub TidyMakesLegal : Type 0
TidyMakesLegal =
    (t : TeamRules) (session : ℕ) (s : TeamState) → IsTeamOf t.frame s
    → is_accepted (outcome_of_asking t session Tidy s) ≡ true → AreLegal t (outcome_of_asking t session Tidy s).team

-- after an accepted commit every cell of the team is placed and team-legal
abbrev pub CommitFindsLegal : Type 0
CommitFindsLegal =
    (t : TeamRules) (session : ℕ) (s : TeamState) → IsTeamOf t.frame s
    → is_accepted (outcome_of_asking t session Commit s) ≡ true → AreLegal t (outcome_of_asking t session Commit s).team

-- after an accepted place the cell is team-legal
abbrev pub PlaceMakesLegal : Type 0
PlaceMakesLegal =
    (t : TeamRules) (session : ℕ) (name : List ℕ) (place : Place) (s : TeamState) → IsTeamOf t.frame s
    → is_accepted (outcome_of_asking t session (PlaceAt name place) s) ≡ true
    → HasLegal t name (outcome_of_asking t session (PlaceAt name place) s).team

-- after an accepted legalize the cell is team-legal
abbrev pub LegalizeMakesLegal : Type 0
LegalizeMakesLegal =
    (t : TeamRules) (session : ℕ) (name : List ℕ) (target : Point) (s : TeamState) → IsTeamOf t.frame s
    → is_accepted (outcome_of_asking t session (Legalize name target) s) ≡ true
    → HasLegal t name (outcome_of_asking t session (Legalize name target) s).team

-- after an accepted swap both cells are team-legal
abbrev pub SwapMakesLegal : Type 0
SwapMakesLegal =
    (t : TeamRules) (session : ℕ) (first second : List ℕ) (s : TeamState) → IsTeamOf t.frame s →
    let after = outcome_of_asking t session (Swap first second) s in
    is_accepted after ≡ true → HasLegal t first after.team × HasLegal t second after.team

-- after any verb a team of the frame is still a team of the frame
abbrev pub VerbKeepsTeam : Type 0
VerbKeepsTeam = (t : TeamRules) (verb : TeamCommand (List ℕ) Place) (s : TeamState) → IsTeamOf t.frame s
    → IsTeamOf t.frame (outcome_of t verb s).team
