-- Sessions: the slots of a team, and the outcomes of open, close and sync.
use Rattle.std.specs.Prelude.{ℕ, Option, Some, None, position, is_none, slice_set}
pub use Rattle.lf_sessions.specs.Slots.{seen_at}
use Rattle.lf_proto.specs.declared.reply.Reply.TheVariants.{Done, Opened, Revision}
use Rattle.lf_proto.specs.declared.reply.Refusal.TheVariants.{SessionsFull}
use Rattle.lf_floor_model.specs.States.{TeamState}
use Rattle.lf_floor_model.specs.Outcomes.{Outcome, refused}

-- the outcome of open, given the slot for the session; None if all slots are taken
abbrev pub opened_at : Option ℕ → TeamState → Outcome
opened_at None s = refused SessionsFull s
opened_at (Some session) s = record {
  reply = Opened session s.revision;
  team = record s { slots = slice_set s.slots session (Some s.revision) };
}

-- open: the session gets the least free slot, and has seen the present revision
unfoldable pub opened : TeamState → Outcome
opened s = opened_at (position is_none s.slots) s

-- close: the session's slot becomes free
unfoldable pub closed : ℕ → TeamState → Outcome
closed session s = record { reply = Done; team = record s { slots = slice_set s.slots session None } }

-- sync: the session has seen the present revision
unfoldable pub synced : ℕ → TeamState → Outcome
synced session s =
    record { reply = Revision s.revision; team = record s { slots = slice_set s.slots session (Some s.revision) } }
