use Rattle.std.proofs.Common.{refl}
use Rattle.lf_cells.specs.Cells.{cells_of}
use Rattle.lf_floor_model.specs.Teams.{team_rules}
use Rattle.lf_floor_verbs.proofs.Marking.{legal_breaks_none}
use Rattle.lf_floor_verbs.proofs.team_legality.broken_unmarked.Goals as goal

pub returns-then-is_marked : goal.returns-then-is_marked
returns-then-is_marked c = λ l.
    legal_breaks_none (team_rules l c.args.placement.now.frame c.args.id.team c.args.padding.sites) (cells_of c.args.placement.now.cells c.args.id.team) c.args.id.own
    c.verdict_is_unique.ensures (c.cells_are_sized.ensures.sized c.args.id.team) (c.requires c.args.id.own (c.if-is_marked.ensures refl))
