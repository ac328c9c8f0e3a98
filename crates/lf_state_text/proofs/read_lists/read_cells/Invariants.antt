use Rattle.std.proofs.Common.{◌≡◌, List, ℕ, drop}
use Rattle.lf_state_text.specs.Designs.{named_team_of}
use Rattle.lf_state_text.specs.Pieces.{IsEnd, rest}
use Rattle.lf_state_text.specs.Reading.{read_cell, each_at}
use Rattle.lf_state_text.proofs.Loop.{with_front}
use Rattle.lf_state_text.proofs.read_lists.read_cells.Given as goal

abbrev pub invariant-loop-own : goal.invariant-loop-own
invariant-loop-own g l =
    let names = (named_team_of (g.D.DesignSchema.named l.design) l.team).cells in
    record {
      read : with_front l.items.items (each_at read_cell (drop l.own names) (rest l.cursor)) ≡ each_at read_cell names (rest l.fn.cursor);
      ends : (text : List ℕ) → IsEnd text l.fn.cursor → IsEnd text l.cursor;
    }
