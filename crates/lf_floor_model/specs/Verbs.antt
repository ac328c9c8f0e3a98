-- The outcome of each verb of the command table: the reply, and the team afterwards.
--
-- A verb is refused for the first of these reasons that holds:
--
-- 1. No session slot is free (open), or the session is not open (any other verb).
-- 2. For a change: the session has not seen the team's revision; then, the revision limit is
--    reached.
-- 3. The team has no cell of a name. The first name is tested first.
-- 4. A cell is unplaced (where, unplace, swap, commit). The first is tested first.
-- 5. A place breaks a rule (place, swap, commit).
-- 6. A cell has no best place (find, legalize, tidy).
-- 7. There is no undo entry (undo).
use Rattle.std.specs.Prelude.{ℕ, Bool, true, false, List, Option, Some, None, nat_lt, ◌==◌, if◌then◌else◌}
use Rattle.lf_floorplan.specs.declared.place.Place.{Place}
use Rattle.lf_proto.specs.declared.request.TeamCommand.{TeamCommand}
use Rattle.lf_proto.specs.declared.request.TeamCommand.TheVariants.{Open, Within}
use Rattle.lf_proto.specs.declared.verb.Action.{Action}
use Rattle.lf_proto.specs.declared.verb.Action.TheVariants.{Close, Sync, Check, Def, Where, Find, Change as Changing}
use Rattle.lf_proto.specs.declared.verb.Change.{Change}
use Rattle.lf_proto.specs.declared.verb.Change.TheVariants.{Place as PlaceAt, Undo, Commit, Pad}
use Rattle.lf_proto.specs.declared.reply.Reply.{Reply}
use Rattle.lf_proto.specs.declared.reply.Reply.TheVariants.{Refused}
use Rattle.lf_proto.specs.declared.reply.Refusal.TheVariants.{NoSession, Stale, RevisionsSpent}
use Rattle.lf_floor_model.specs.States.{TeamState}
use Rattle.lf_floor_model.specs.Teams.{TeamRules}
use Rattle.lf_floor_model.specs.Outcomes.{Outcome, refused}
use Rattle.lf_floor_model.specs.Sessions.{seen_at, opened, closed, synced}
use Rattle.lf_floor_model.specs.Queries.{checked, written, located, found}
use Rattle.lf_floor_model.specs.Changes.{outcome_of_change}

-- ---- the outcome of each verb

-- a change needs a session that has seen the present revision, and a revision below the limit
abbrev pub unless_stale : ℕ → TeamRules → ℕ → Change (List ℕ) Place → TeamState → Outcome
unless_stale seen t session change s = if seen == s.revision
    then (if nat_lt s.revision t.frame.limits.revisions then outcome_of_change t session change s
    else refused RevisionsSpent s) else refused (Stale s.revision) s

-- the outcome of an action of a session that has seen this revision
abbrev pub outcome_within : ℕ → TeamRules → ℕ → Action (List ℕ) Place → TeamState → Outcome
outcome_within seen t session Close s = closed session s
outcome_within seen t session Sync s = synced session s
outcome_within seen t session Check s = checked t s
outcome_within seen t session Def s = written t s
outcome_within seen t session (Where name) s = located name s
outcome_within seen t session (Find name target) s = found t name target s
outcome_within seen t session (Changing change) s = unless_stale seen t session change s

-- the outcome of a session's action, given the revision that the session has seen; None if it is
-- not open
abbrev pub outcome_by_slot : Option ℕ → TeamRules → ℕ → Action (List ℕ) Place → TeamState → Outcome
outcome_by_slot None t session verb s = refused NoSession s
outcome_by_slot (Some seen) t session verb s = outcome_within seen t session verb s

-- the outcome of a command, with the rules of its team
abbrev pub outcome_of : TeamRules → TeamCommand (List ℕ) Place → TeamState → Outcome
outcome_of t Open s = opened s
outcome_of t (Within session verb) s = outcome_by_slot (seen_at s.slots session) t session verb s

-- ---- memory

-- the commands that may allocate: all except open, close, sync, where, undo and pad
abbrev pub takes_memory : TeamCommand (List ℕ) Place → Bool
takes_memory Open = false
takes_memory (Within session Close) = false
takes_memory (Within session Sync) = false
takes_memory (Within session (Where name)) = false
takes_memory (Within session (Changing Undo)) = false
takes_memory (Within session (Changing (Pad padding))) = false
takes_memory _ = true

-- the replies for which such a command allocates nothing after all: a place is refused by a test
-- that does not allocate
abbrev pub is_tested : TeamCommand (List ℕ) Place → Reply → Bool
is_tested (Within session (Changing (PlaceAt name place))) (Refused refusal) = true
is_tested _ _ = false

-- ---- undo

-- the changes that undo reverts
abbrev pub is_recorded : Change (List ℕ) Place → Bool
is_recorded Undo = false
is_recorded Commit = false
is_recorded (Pad padding) = false
is_recorded _ = true
