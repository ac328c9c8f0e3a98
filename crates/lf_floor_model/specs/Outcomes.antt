-- The outcome of a team's command: the reply, and the team afterwards; and what a change does to a
-- team.
use Rattle.std.specs.Prelude.{◌≡◌, ℕ, ◌+◌, List, ◌∷◌, Option, Some, None, Bool, true, false, map, take, slice_set, slice_get, option_map}
use Rattle.lf_floorplan.specs.declared.place.Place.{Place}
use Rattle.lf_floorplan.specs.declared.limits.Limits.{Limits}
use Rattle.lf_rules.specs.declared.rule.Broken.{Broken}
use Rattle.lf_proto.specs.declared.reply.Reply.{Reply}
use Rattle.lf_proto.specs.declared.reply.Reply.TheVariants.{Revision, At, Legalized, Tidied as TidyDone, Report, Def, Refused}
use Rattle.lf_proto.specs.declared.reply.Refusal.{Refusal}
use Rattle.lf_proto.specs.declared.reply.Refusal.TheVariants.{NoCell, Unplaced, Illegal, NoPlace, OutOfMemory}
use Rattle.lf_cells.specs.declared.cell.Cell.{Cell}
use Rattle.lf_floor_model.specs.States.{TeamState}
use Rattle.lf_floor_model.specs.Teams.{TeamRules}

-- the reply to a command, and the team afterwards
pub record Outcome : Type 0 where
  pub reply : Reply
  pub team : TeamState

-- the reply and the team are the outcome's
pub record IsOutcome (outcome : Outcome) (reply : Reply) (team : TeamState) : Type 0 where
  pub reply_is : reply ≡ outcome.reply
  pub team_is : team ≡ outcome.team

-- a refusal leaves the team unchanged
abbrev pub refused : Refusal → TeamState → Outcome
refused refusal s = record { reply = Refused refusal; team = s }

-- the outcome for the cell at that position; refused if the team has no such cell
abbrev pub unless_missing : Option ℕ → TeamState → (ℕ → Outcome) → Outcome
unless_missing None s outcome = refused NoCell s
unless_missing (Some own) s outcome = outcome own

-- the outcome for that cell's working place; refused if the cell is unplaced
abbrev pub unless_unplaced : Option Place → ℕ → TeamState → (Place → Outcome) → Outcome
unless_unplaced None own s outcome = refused (Unplaced own) s
unless_unplaced (Some place) own s outcome = outcome place

-- the outcome if that cell breaks no rule; otherwise refused for the first rule that it breaks
abbrev pub unless_broken : Option Broken → ℕ → TeamState → Outcome → Outcome
unless_broken None own s outcome = outcome
unless_broken (Some broken) own s outcome = refused (Illegal broken.rule own broken.other) s

-- the outcome for that cell's best place; refused if it has no best place
abbrev pub unless_no_place : Option Place → ℕ → TeamState → (Place → Outcome) → Outcome
unless_no_place None own s outcome = refused (NoPlace own) s
unless_no_place (Some place) own s outcome = outcome place

-- ---- if memory runs out

-- the reply is OutOfMemory
abbrev pub is_short : Reply → Bool
is_short (Refused OutOfMemory) = true
is_short _ = false

-- the replies that OutOfMemory may replace: of an accepted change, which allocates its undo entry;
-- of a broken rule, a best place or the lack of one, which collect the boxes of the other cells;
-- and a report and a DEF text. Sync and where have replies of these forms, but allocate nothing
abbrev pub may_be_short : Reply → Bool
may_be_short (Revision revision) = true
may_be_short (Legalized revision place) = true
may_be_short (TidyDone revision count) = true
may_be_short (At place) = true
may_be_short (Report text) = true
may_be_short (Def text) = true
may_be_short (Refused (Illegal rule cell other)) = true
may_be_short (Refused (NoPlace cell)) = true
may_be_short _ = false

-- memory ran out: OutOfMemory may replace the outcome's reply, and the team is unchanged
pub record IsOutOfMemory (outcome : Outcome) (old new : TeamState) : Type 0 where
  pub kept : new ≡ old
  pub may : may_be_short outcome.reply ≡ true

-- ---- cells and places

-- the working places, in loading order
abbrev pub places_of : List Cell → List (Option Place)
places_of cells = map (λ c. c.working) cells

-- the name of the cell at that position; None if there is no such cell
abbrev pub name_at : List Cell → ℕ → Option (List ℕ)
name_at cells own = option_map (λ c. c.name) (slice_get cells own)

-- ---- changes

-- an accepted change: the team gets these cells and undo entries, the revision is one more, and the
-- session has seen it
abbrev pub changed : ℕ → List Cell → List (List (Option Place)) → TeamState → Outcome
changed session cells entries s =
    record {
      reply = Revision (s.revision + 1);
      team = record s {
        cells = cells;
        revision = s.revision + 1;
        entries = entries;
        slots = slice_set s.slots session (Some (s.revision + 1));
      };
    }

-- the undo entries with the present working places added as the newest; beyond the limit the oldest
-- is dropped
abbrev pub with_entry : Limits → TeamState → List (List (Option Place))
with_entry limits s = take limits.undo (places_of s.cells ∷ s.entries)

-- an accepted change to these cells, with the old working places as the newest undo entry
abbrev pub recorded : TeamRules → ℕ → List Cell → TeamState → Outcome
recorded t session cells s = changed session cells (with_entry t.frame.limits s) s

-- the same outcome with another reply
abbrev pub with_reply : Reply → Outcome → Outcome
with_reply reply o = record o { reply = reply }
