use Rattle.lf_floor_verbs.proofs.BrokenRules.{broken_there}
use Rattle.lf_floor_verbs.proofs.cell_queries.broken_at.Goals as goal

pub returns : goal.returns
returns c = λ l.
    broken_there l c.args.placement.now c.args.padding.sites c.args.id c.args.place.now c.first_broken.result c.verdict_is_unique.ensures
    (c.cells_are_sized.ensures.sized c.args.id.team) c.first_broken.ensures
