use Rattle.lf_legalize.proofs.LevelLemmas.{levels_next}
use Rattle.lf_legalize.proofs.levels.free_by_level.Goals as goal

pub loop-level-preserved : goal.loop-level-preserved
loop-level-preserved c =
    levels_next c.args.search.now c.args.bottom.now.number c.args.bottom.now.row.now c.args.bottom.now.window.now.span c.loop-level.level c.loop-level.lists.items
    c.push.new.self.items
    c.in_ok-free.free c.in_ok-push.ensures.items c.in_ok-free.ensures c.loop-level.invariant
