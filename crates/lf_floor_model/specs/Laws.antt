-- Laws on runs: what other teams have and send does not matter.
use Rattle.std.specs.Prelude.{◌≡◌, ℕ, List, Some}
use Rattle.lf_floorplan.specs.declared.loaded.Loaded.{Loaded}
use Rattle.lf_floorplan.specs.declared.place.Place.{Place}
use Rattle.lf_rules.specs.Legalizer.{Legalizer}
use Rattle.lf_proto.specs.declared.request.Command.{Command}
use Rattle.lf_proto.specs.declared.reply.Reply.{Reply}
use Rattle.lf_floor_model.specs.States.{TeamState, FloorState}
use Rattle.lf_floor_model.specs.Teams.{state_of}
use Rattle.lf_floor_model.specs.Designs.{AgreeFor, initial_floor}
use Rattle.lf_floor_model.specs.Runs.{Run, IsIsolated, own_commands, own_replies_in}

-- in each run, each team's replies and state are those of its own commands alone
abbrev pub RunIsIsolated : Type 0
RunIsIsolated =
    (l : Legalizer) (old new : FloorState) (commands : List (Command (List ℕ) Place)) (replies : List Reply)
    → Run l old commands replies new → IsIsolated l old commands replies new

-- in two runs on floors of one frame, a team that begins in the same state and sends the same
-- commands gets the same replies and ends in the same state; what the other teams have and send
-- does not matter; commands with the reply OutOfMemory are left out
abbrev pub OthersDoNotMatter : Type 0
OthersDoNotMatter =
    (l : Legalizer) (team : List ℕ) (a a' b b' : FloorState) (commands others : List (Command (List ℕ) Place))
    (replies answers : List Reply) (s : TeamState)
    → Run l a commands replies a' → Run l b others answers b'
    → a.frame ≡ b.frame → state_of a team ≡ Some s → state_of b team ≡ Some s
    → own_commands team commands replies ≡ own_commands team others answers
    → (own_replies_in team commands replies ≡ own_replies_in team others answers)
    × (state_of a' team ≡ state_of b' team)

-- the same for two loaded designs that agree for the team: the cells of the other teams do not
-- matter
abbrev pub OtherDesignsDoNotMatter : Type 0
OtherDesignsDoNotMatter =
    (l : Legalizer) (team : List ℕ) (a b : Loaded) (a' b' : FloorState)
    (commands others : List (Command (List ℕ) Place)) (replies answers : List Reply)
    → AgreeFor team a b
    → Run l (initial_floor a) commands replies a' → Run l (initial_floor b) others answers b'
    → own_commands team commands replies ≡ own_commands team others answers
    → (own_replies_in team commands replies ≡ own_replies_in team others answers)
    × (state_of a' team ≡ state_of b' team)
