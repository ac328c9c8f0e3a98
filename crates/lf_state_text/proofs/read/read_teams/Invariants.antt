use Rattle.std.proofs.Common.{◌≡◌, List, ℕ, drop}
use Rattle.lf_state_text.specs.Pieces.{IsEnd, rest}
use Rattle.lf_state_text.specs.Saved.{team_views}
use Rattle.lf_state_text.specs.Reading.{each_at, team_at}
use Rattle.lf_state_text.proofs.Loop.{with_front}
use Rattle.lf_state_text.proofs.read.read_teams.Given as goal

abbrev pub invariant-loop-team : goal.invariant-loop-team
invariant-loop-team g l =
    let design = g.D.DesignSchema.named l.design in
    record {
      read : with_front (team_views l.items.items) (each_at (team_at design.limits) (drop l.team design.teams) (rest l.cursor)) ≡ each_at (team_at design.limits) design.teams (rest l.fn.cursor);
      ends : (text : List ℕ) → IsEnd text l.fn.cursor → IsEnd text l.cursor;
    }
