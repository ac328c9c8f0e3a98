-- What serving does to the teams: the lines are commands, and each team gets the replies to its own
-- orders.
use Rattle.std.specs.Prelude.{◌≡◌, ℕ, List, [], ◌∷◌, Option, Some, None, ◌&&◌, not, bytes_eq, if◌then◌else◌}
use Rattle.lf_floorplan.specs.declared.loaded.Loaded.{Loaded}
use Rattle.lf_floorplan.specs.declared.place.Place.{Place}
use Rattle.lf_rules.specs.Legalizer.{Legalizer}
use Rattle.lf_proto.specs.declared.request.Command.{Command}
use Rattle.lf_proto.specs.declared.request.Command.TheVariants.{Bye, To}
use Rattle.lf_proto.specs.declared.reply.Reply.{Reply}
use Rattle.lf_floor_model.specs.States.{TeamState, FloorState}
use Rattle.lf_floor_model.specs.Teams.{state_of}
use Rattle.lf_floor_model.specs.Designs.{AgreeFor, initial_floor}
use Rattle.lf_floor_model.specs.Outcomes.{is_short}
use Rattle.lf_floor_model.specs.Runs.{Run, own_commands}
use Rattle.lf_server.specs.Devices.{Writer}
use Rattle.lf_server.specs.Exchanges.{Exchange, requested_on}
use Rattle.lf_server.specs.Endings.{WritesReplies}
use Rattle.lf_server.specs.declared.serve_loop.Ending.{Ending}

-- ---- lines as commands

abbrev pub with_command : Option (Command (List ℕ) Place) → List (Command (List ℕ) Place)
    → List (Command (List ℕ) Place)
with_command None later = later
with_command (Some command) later = command ∷ later

-- The commands of the lines, in order. A line that is no request has no command.
abbrev pub commands : List Exchange → List (Command (List ℕ) Place)
commands [] = []
commands (e ∷ later) = with_command (requested_on e.line) (commands later)

abbrev pub reply_added : Option (Command (List ℕ) Place) → Reply → List Reply → List Reply
reply_added None reply later = later
reply_added (Some command) reply later = reply ∷ later

-- The replies to these commands.
abbrev pub replies : List Exchange → List Reply
replies [] = []
replies (e ∷ later) = reply_added (requested_on e.line) e.reply (replies later)

-- However serving ends, the floor has run the commands of the lines acted on, with these replies.
abbrev pub ServingRuns : Type 0
ServingRuns =
    (l : Legalizer) (ending : Ending) (old new : FloorState) (before after : Writer) (done : List Exchange)
    → WritesReplies ending l old before done new after → Run l old (commands done) (replies done) new

-- ---- what a team gets, byte for byte

-- The text of the reply if it is to this team and not `OutOfMemory`, in front of the later texts.
abbrev pub reply_before : List ℕ → Option (Command (List ℕ) Place) → Exchange → List (List ℕ) → List (List ℕ)
reply_before team None e later = later
reply_before team (Some Bye) e later = later
reply_before team (Some (To name order)) e later =
    if bytes_eq name team && not (is_short e.reply) then e.text ∷ later else later

-- The texts of the replies to the team of this name, without `OutOfMemory`.
abbrev pub reply_texts : List ℕ → List Exchange → List (List ℕ)
reply_texts team [] = []
reply_texts team (e ∷ later) = reply_before team (requested_on e.line) e (reply_texts team later)

-- Two servings of floors that have the same frame: a team that begins in the same state and sends
-- the same commands gets the same texts, byte for byte. The other teams may have and send anything.
-- Commands with the reply `OutOfMemory` are not considered.
abbrev pub RepliesAreOwn : Type 0
RepliesAreOwn =
    (l : Legalizer) (team : List ℕ) (end end' : Ending) (a a' b b' : FloorState) (v v' w w' : Writer)
    (done others : List Exchange) (s : TeamState)
    → WritesReplies end l a v done a' v' → WritesReplies end' l b w others b' w'
    → a.frame ≡ b.frame → state_of a team ≡ Some s → state_of b team ≡ Some s
    → own_commands team (commands done) (replies done) ≡ own_commands team (commands others) (replies others)
    → reply_texts team done ≡ reply_texts team others

-- The same for two loaded designs that agree for the team.
abbrev pub RepliesFollowDesign : Type 0
RepliesFollowDesign =
    (l : Legalizer) (team : List ℕ) (end end' : Ending) (a b : Loaded) (a' b' : FloorState) (v v' w w' : Writer)
    (done others : List Exchange)
    → AgreeFor team a b
    → WritesReplies end l (initial_floor a) v done a' v' → WritesReplies end' l (initial_floor b) w others b' w'
    → own_commands team (commands done) (replies done) ≡ own_commands team (commands others) (replies others)
    → reply_texts team done ≡ reply_texts team others
