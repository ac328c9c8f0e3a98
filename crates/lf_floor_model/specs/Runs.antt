-- What a sequence of commands does: to the floor, step by step, and to one team, by its own
-- commands alone.
use Rattle.std.specs.Prelude.{◌≡◌, ℕ, List, [], ◌∷◌, Some, ◌&&◌, not, bytes_eq, if◌then◌else◌}
use Rattle.lf_floorplan.specs.declared.frame.Frame.{Frame}
use Rattle.lf_floorplan.specs.declared.place.Place.{Place}
use Rattle.lf_rules.specs.Legalizer.{Legalizer}
use Rattle.lf_proto.specs.declared.request.Command.{Command}
use Rattle.lf_proto.specs.declared.request.Command.TheVariants.{Bye, To}
use Rattle.lf_proto.specs.declared.request.TeamCommand.{TeamCommand}
use Rattle.lf_proto.specs.declared.reply.Reply.{Reply}
use Rattle.lf_floor_model.specs.States.{TeamState, FloorState}
use Rattle.lf_floor_model.specs.Teams.{team_number, state_of}
use Rattle.lf_floor_model.specs.Steps.{Step, outcome_by_rules}
use Rattle.lf_floor_model.specs.Outcomes.{is_short}

-- these commands in order take the floor from old to new, with one reply to each
abbrev pub Run : Legalizer → FloorState → List (Command (List ℕ) Place) → List Reply → FloorState → Type 0
Run l old [] [] new = new ≡ old
Run l old (command ∷ commands) (reply ∷ replies) new = (mid : FloorState) × Step l old command reply mid
    × Run l mid commands replies new
Run l old [] (reply ∷ replies) new = ⊥
Run l old (command ∷ commands) [] new = ⊥

-- ---- one team

-- the replies to a team's own commands, run in order
abbrev pub own_replies : Legalizer → Frame → ℕ → List (TeamCommand (List ℕ) Place) → TeamState → List Reply
own_replies l f number [] s = []
own_replies l f number (order ∷ orders) s = (outcome_by_rules l f number order s).reply ∷ own_replies l f number orders
    (outcome_by_rules l f number order s).team

-- the team after its own commands
abbrev pub own_state : Legalizer → Frame → ℕ → List (TeamCommand (List ℕ) Place) → TeamState → TeamState
own_state l f number [] s = s
own_state l f number (order ∷ orders) s = own_state l f number orders (outcome_by_rules l f number order s).team

-- the commands of a run to the team of that name, without those with the reply OutOfMemory
abbrev pub own_commands : List ℕ → List (Command (List ℕ) Place) → List Reply → List (TeamCommand (List ℕ) Place)
own_commands team [] replies = []
own_commands team (command ∷ commands) [] = []
own_commands team (Bye ∷ commands) (reply ∷ replies) = own_commands team commands replies
own_commands team (To name order ∷ commands) (reply ∷ replies) =
    let later = own_commands team commands replies in
    if bytes_eq name team && not (is_short reply) then order ∷ later else later

-- the replies of a run to the team of that name, without OutOfMemory
abbrev pub own_replies_in : List ℕ → List (Command (List ℕ) Place) → List Reply → List Reply
own_replies_in team [] replies = []
own_replies_in team (command ∷ commands) [] = []
own_replies_in team (Bye ∷ commands) (reply ∷ replies) = own_replies_in team commands replies
own_replies_in team (To name order ∷ commands) (reply ∷ replies) =
    let later = own_replies_in team commands replies in
    if bytes_eq name team && not (is_short reply) then reply ∷ later else later

-- the team's replies and state are those of its own commands alone from its first state
pub record IsOwnRun (l : Legalizer) (frame : Frame) (number : ℕ) (team : List ℕ) (s : TeamState)
    (commands : List (Command (List ℕ) Place)) (replies : List Reply) (new : FloorState) : Type 0 where
  pub replies_are : own_replies_in team commands replies
      ≡ own_replies l frame number (own_commands team commands replies) s
  pub state_is : state_of new team ≡ Some (own_state l frame number (own_commands team commands replies) s)

-- each team's replies and state are those of its own commands alone
abbrev pub IsIsolated : Legalizer → FloorState → List (Command (List ℕ) Place) → List Reply → FloorState → Type 0
IsIsolated l old commands replies new =
    (team : List ℕ) (number : ℕ) (s : TeamState) → team_number old.frame team ≡ Some number → state_of old team ≡ Some s
    → IsOwnRun l old.frame number team s commands replies new
