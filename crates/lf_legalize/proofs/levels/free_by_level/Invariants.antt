use Rattle.lf_legalize.proofs.LevelLemmas.{LevelsSoFar}
use Rattle.lf_legalize.proofs.levels.free_by_level.Given as goal

-- the free spans at the levels visited
abbrev pub invariant-loop-level : goal.invariant-loop-level
invariant-loop-level l = LevelsSoFar l.search l.bottom.number l.bottom.row.now l.bottom.window.now.span l.level l.lists.items
