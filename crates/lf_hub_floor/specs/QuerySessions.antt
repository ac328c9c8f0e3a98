-- A session that is opened for a query, and closed after it.
use Rattle.std.specs.Prelude.{◌≡◌, ℕ, List, Option, Some, None, position, is_none, slice_get, slice_set}
use Rattle.lf_proto.specs.declared.reply.Reply.{Reply}
use Rattle.lf_proto.specs.declared.reply.Reply.TheVariants.{Opened}
use Rattle.lf_floor_model.specs.States.{TeamState, FloorState}
use Rattle.lf_floor_model.specs.Teams.{team_number}

-- The team with a session that has seen its revision.
abbrev pub with_session : ℕ → TeamState → TeamState
with_session session s = record s { slots = slice_set s.slots session (Some s.revision) }

abbrev pub with_team : ℕ → TeamState → FloorState → FloorState
with_team number s floor = record floor { teams = slice_set floor.teams number s }

-- The session that a reply says was opened.
abbrev pub session_opened : Reply → Option ℕ
session_opened (Opened session revision) = Some session
session_opened _ = None

-- The team of this name has opened a session, which took its least free slot.
pub record OpensSession (old : FloorState) (team : List ℕ) (session : ℕ) (new : FloorState) : Type 0 where
  pub number : ℕ
  pub state : TeamState
  pub named : team_number old.frame team ≡ Some number
  pub there : slice_get old.teams number ≡ Some state
  pub free : position is_none state.slots ≡ Some session
  pub is : new ≡ with_team number (with_session session state) old

-- No slot of the team of this name is free, or there is no such team. Nothing has changed.
pub record HasNoFreeSlot (old : FloorState) (team : List ℕ) (new : FloorState) : Type 0 where
  pub kept : new ≡ old
  pub full : (number : ℕ) (state : TeamState) → team_number old.frame team ≡ Some number
      → slice_get old.teams number ≡ Some state → position is_none state.slots ≡ None
