use Rattle.std.proofs.Common.{◌≡◌, ◌≤◌, List, ◌++◌, length, drop, vec_len}
use Rattle.std.specs.Prelude.{vec_capacity}
use Rattle.lf_rules.specs.Legalizer.{Legalizer}
use Rattle.lf_proto.specs.declared.reply.Reply.{Reply}
use Rattle.lf_floor_model.specs.States.{FloorState}
use Rattle.lf_floor_model.specs.Runs.{Run}
use Rattle.lf_floor.proofs.floor.Floor.run.Given as goal

-- any run that continues from here makes, with the replies so far, a run from the start
abbrev pub invariant-loop-i : goal.invariant-loop-i
invariant-loop-i g l = record {
  run : (j : Legalizer) (rest : List Reply) (new : FloorState) → Run j l.self (drop l.i l.requests) rest new
      → Run j l.fn.self l.requests (l.replies.items ++ rest) new;
  components : l.self.components ≡ l.fn.self.components;
  count : vec_len l.replies ≡ l.i;
  room : length l.requests ≤ vec_capacity l.replies;
}
