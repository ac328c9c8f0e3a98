-- Laws on frames, floors and designs that are alike for a team.
use Rattle.std.specs.Prelude.{◌≡◌, ◌↔◌, ℕ, List}
use Rattle.lf_units.specs.declared.geometry.Point.{Point}
use Rattle.lf_floorplan.specs.declared.frame.Frame.{Frame}
use Rattle.lf_floorplan.specs.declared.loaded.Loaded.{Loaded}
use Rattle.lf_floorplan.specs.declared.place.Place.{Place}
use Rattle.lf_floorplan.specs.Boxes.{IsSized}
use Rattle.lf_rules.specs.declared.rule.Rule.{Rule}
use Rattle.lf_rules.specs.Legality.{Candidate, Holds}
use Rattle.lf_rules.specs.Choice.{PlacementQuery}
use Rattle.lf_rules.specs.Legalizer.{Legalizer}
use Rattle.lf_proto.specs.declared.request.Command.{Command}
use Rattle.lf_proto.specs.declared.request.TeamCommand.{TeamCommand}
use Rattle.lf_proto.specs.declared.reply.Reply.{Reply}
use Rattle.lf_floor_model.specs.States.{TeamState, FloorState}
use Rattle.lf_floor_model.specs.Steps.{outcome_by_rules}
use Rattle.lf_floor_model.specs.Designs.{initial_floor}
use Rattle.lf_floor_model.specs.Runs.{Run, own_commands, own_replies_in}
use Rattle.lf_floor_model.specs.Journals.{lasting, lasting_replies}
use Rattle.lf_laws_slices.specs.Alike.{AreFramesAlike, AreTeamsAlike, AreOutcomesAlike, AreFloorsAlike, AreDesignsAlike}

-- being alike is symmetric
pub record AlikeIsSymmetric : Type 0 where
  pub frames : (f g : Frame) → AreFramesAlike f g → AreFramesAlike g f
  pub floors : (team : List ℕ) (a b : FloorState) → AreFloorsAlike team a b → AreFloorsAlike team b a
  pub designs : (team : List ℕ) (a b : Loaded) → AreDesignsAlike team a b → AreDesignsAlike team b a

-- ---- the rules

-- the candidate, on another frame
abbrev pub candidate_on : Frame → Candidate → Candidate
candidate_on g t = record t { frame = g }

-- the unplaced cell, on another frame
abbrev pub query_on : Frame → PlacementQuery → PlacementQuery
query_on g c = record c { frame = g }

-- on alike frames each rule holds for a candidate on both or on neither
abbrev pub RulesAreAlike : Type 0
RulesAreAlike = (t : Candidate) (g : Frame) (r : Rule) → AreFramesAlike t.frame g
    → Holds t r ↔ Holds (candidate_on g t) r

-- on alike frames a candidate has one verdict, whatever the legalizers
abbrev pub VerdictsAreAlike : Type 0
VerdictsAreAlike =
    (l m : Legalizer) (t : Candidate) (g : Frame) → AreFramesAlike t.frame g → IsSized t.frame t.mac
    → l.first_broken t ≡ m.first_broken (candidate_on g t)

-- on alike frames a cell has one best place for a target, whatever the legalizers
abbrev pub BestPlacesAreAlike : Type 0
BestPlacesAreAlike =
    (l m : Legalizer) (c : PlacementQuery) (target : Point) (g : Frame)
    → AreFramesAlike c.frame g → IsSized c.frame c.mac → l.best_place c target ≡ m.best_place (query_on g c) target

-- ---- one team

-- on alike frames a command of a team whose states are alike has outcomes that are alike, whatever
-- the legalizers
abbrev pub OutcomesAreAlike : Type 0
OutcomesAreAlike =
    (l m : Legalizer) (f g : Frame) (number : ℕ) (order : TeamCommand (List ℕ) Place) (s t : TeamState)
    → AreFramesAlike f g → AreTeamsAlike f g s t
    → AreOutcomesAlike f g (outcome_by_rules l f number order s) (outcome_by_rules m g number order t)

-- ---- floors and designs

-- in two runs, on floors that are alike for a team, the same commands to that team get the same
-- replies and keep the floors alike for it; what the other teams have and send does not matter;
-- commands with the reply OutOfMemory are left out
abbrev pub RunsAreAlike : Type 0
RunsAreAlike =
    (l m : Legalizer) (team : List ℕ) (a a' b b' : FloorState) (commands others : List (Command (List ℕ) Place))
    (replies answers : List Reply)
    → AreFloorsAlike team a b
    → Run l a commands replies a' → Run m b others answers b'
    → own_commands team commands replies ≡ own_commands team others answers
    → (own_replies_in team commands replies ≡ own_replies_in team others answers) × AreFloorsAlike team a' b'

-- the first floors of two loaded designs that are alike for a team are alike for it
abbrev pub DesignsOpenAlike : Type 0
DesignsOpenAlike = (team : List ℕ) (a b : Loaded) → AreDesignsAlike team a b
    → AreFloorsAlike team (initial_floor a) (initial_floor b)

-- a team gets the same replies over its slice as over the whole design, and so over any two loaded
-- designs that are alike for the team
abbrev pub SlicesAnswerAlike : Type 0
SlicesAnswerAlike =
    (l m : Legalizer) (team : List ℕ) (a b : Loaded) (a' b' : FloorState)
    (commands others : List (Command (List ℕ) Place)) (replies answers : List Reply)
    → AreDesignsAlike team a b
    → Run l (initial_floor a) commands replies a' → Run m (initial_floor b) others answers b'
    → own_commands team commands replies ≡ own_commands team others answers
    → (own_replies_in team commands replies ≡ own_replies_in team others answers) × AreFloorsAlike team a' b'

-- the changes of a team on a floor may be pushed to another floor that is alike for it: if the
-- team's whole journal is sent there, with memory for each command, and no other command to that
-- team, it gets the same replies and the floors are alike for the team afterwards
abbrev pub PushesAnswerAlike : Type 0
PushesAnswerAlike =
    (l m : Legalizer) (team : List ℕ) (a a' b b' : FloorState) (commands pushed : List (Command (List ℕ) Place))
    (replies answers : List Reply) →
    let journal = lasting commands replies in
    let kept = lasting_replies commands replies in
    AreFloorsAlike team a b
    → Run l a commands replies a' → Run m b pushed answers b'
    → own_commands team journal kept ≡ own_commands team pushed answers
    → (own_replies_in team journal kept ≡ own_replies_in team pushed answers) × AreFloorsAlike team a' b'
