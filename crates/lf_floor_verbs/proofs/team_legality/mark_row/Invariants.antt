use Rattle.lf_floor_verbs.specs.Tables.{table_cells, frame_of}
use Rattle.lf_floor_verbs.specs.Marking.{AreMarked}
use Rattle.lf_floor_verbs.proofs.team_legality.mark_row.Given as goal

-- each mark so far is right, if the earlier marks were
abbrev pub invariant-loop-own : goal.invariant-loop-own
invariant-loop-own g l =
    AreMarked (frame_of l.tables) l.context.number l.context.padding.sites (table_cells l.context.number l.tables) l.initial.marks.items
    → AreMarked (frame_of l.tables) l.context.number l.context.padding.sites (table_cells l.context.number l.tables) l.marks.items
