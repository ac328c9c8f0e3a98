-- What may be left out of a run, and what the journal of a run contains.
use Rattle.std.specs.Prelude.{◌≡◌, ℕ, List, [], ◌∷◌, Bool, true, false, ◌&&◌, not, All, Some}
use Rattle.lf_floorplan.specs.declared.place.Place.{Place}
use Rattle.lf_rules.specs.Legalizer.{Legalizer}
use Rattle.lf_proto.specs.declared.request.Command.{Command}
use Rattle.lf_proto.specs.declared.request.Command.TheVariants.{Bye, To}
use Rattle.lf_proto.specs.declared.request.TeamCommand.TheVariants.{Within}
use Rattle.lf_proto.specs.declared.verb.Action.TheVariants.{Check, Def, Where, Find}
use Rattle.lf_proto.specs.declared.reply.Reply.{Reply}
use Rattle.lf_floor_model.specs.States.{FloorState}
use Rattle.lf_floor_model.specs.Teams.{team_number}
use Rattle.lf_floor_model.specs.Outcomes.{is_short}
use Rattle.lf_floor_model.specs.VerbLaws.{is_ok}
use Rattle.lf_floor_model.specs.Runs.{Run, own_commands}

-- a query, which changes nothing: bye, check, def, where or find
abbrev pub is_query : Command (List ℕ) Place → Bool
is_query Bye = true
is_query (To team (Within session Check)) = true
is_query (To team (Within session Def)) = true
is_query (To team (Within session (Where name))) = true
is_query (To team (Within session (Find name target))) = true
is_query _ = false

-- the command was accepted, and is not a query: its effect lasts
abbrev pub is_lasting : Command (List ℕ) Place → Reply → Bool
is_lasting command reply = is_ok reply && not (is_query command)

-- ---- leaving out

-- the elements whose mark is true
abbrev pub marked : {X : Type 0} → List Bool → List X → List X
marked (true ∷ marks) (x ∷ xs) = x ∷ marked marks xs
marked (false ∷ marks) (x ∷ xs) = marked marks xs
marked _ _ = []

-- each command of a run has a mark, and the mark of each lasting command is true; other marks may
-- be true too
abbrev pub MarkLasting : List Bool → List (Command (List ℕ) Place) → List Reply → Type 0
MarkLasting [] [] [] = Unit {0}
MarkLasting (mark ∷ marks) (command ∷ commands) (reply ∷ replies) = (is_lasting command reply ≡ true → mark ≡ true)
    × MarkLasting marks commands replies
MarkLasting _ _ _ = ⊥

-- whichever non-lasting commands are left out, the remaining commands are a run to the same floor
-- with their old replies
abbrev pub AreOmittable : Legalizer → FloorState → List (Command (List ℕ) Place) → List Reply → FloorState → Type 0
AreOmittable l old commands replies new =
    (marks : List Bool) → MarkLasting marks commands replies
    → Run l old (marked marks commands) (marked marks replies) new

-- ---- the journal

-- for each command of a run, whether it lasts
abbrev pub which_last : List (Command (List ℕ) Place) → List Reply → List Bool
which_last (command ∷ commands) (reply ∷ replies) = is_lasting command reply ∷ which_last commands replies
which_last _ _ = []

-- the journal of a run: its lasting commands
abbrev pub lasting : List (Command (List ℕ) Place) → List Reply → List (Command (List ℕ) Place)
lasting commands replies = marked (which_last commands replies) commands

-- the replies to the lasting commands
abbrev pub lasting_replies : List (Command (List ℕ) Place) → List Reply → List Reply
lasting_replies commands replies = marked (which_last commands replies) replies

-- the journal is a backup: it is a run to the same floor, with the replies of its commands; each
-- run of it from the old floor with memory for each command gets these replies and ends in this
-- floor
pub record IsBackup (l : Legalizer) (old : FloorState) (journal : List (Command (List ℕ) Place)) (replies : List Reply)
    (new : FloorState) : Type 0 where
  pub runs : Run l old journal replies new
  pub again :
      (answers : List Reply) (end : FloorState) → Run l old journal answers end
      → All (λ answer. is_short answer ≡ false) answers
      → (answers ≡ replies) × (end ≡ new)

-- ---- laws

-- refused commands, OutOfMemory included, and queries may be left out of a run
abbrev pub QueriesAndRefusalsAreOmittable : Type 0
QueriesAndRefusalsAreOmittable =
    (l : Legalizer) (old new : FloorState) (commands : List (Command (List ℕ) Place)) (replies : List Reply)
    → Run l old commands replies new → AreOmittable l old commands replies new

-- the journal of a run is a backup
abbrev pub JournalRestores : Type 0
JournalRestores =
    (l : Legalizer) (old new : FloorState) (commands : List (Command (List ℕ) Place)) (replies : List Reply)
    → Run l old commands replies new → IsBackup l old (lasting commands replies) (lasting_replies commands replies) new

-- two runs from one floor in which each team is sent the same commands end in the same floor; the
-- order of commands to different teams does not matter; commands with the reply OutOfMemory are
-- left out
abbrev pub TeamsInAnyOrder : Type 0
TeamsInAnyOrder =
    (l : Legalizer) (old a b : FloorState) (commands others : List (Command (List ℕ) Place))
    (replies answers : List Reply)
    → Run l old commands replies a → Run l old others answers b
    → ((team : List ℕ) (number : ℕ) → team_number old.frame team ≡ Some number
    → own_commands team commands replies ≡ own_commands team others answers)
    → b ≡ a
