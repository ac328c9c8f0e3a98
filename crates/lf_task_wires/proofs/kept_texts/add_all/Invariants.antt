use Rattle.std.proofs.Common.{drop, map}
use Rattle.lf_task_wires.proofs.Keeping.{KeepsOn}
use Rattle.lf_task_wires.proofs.kept_texts.add_all.Given as goal

-- The remaining paths continue with the library and the texts so far.
abbrev pub invariant-loop-path : goal.invariant-loop-path
invariant-loop-path g l = record {
  keeps_on : KeepsOn (g.T.InputFiles.gives l.texts) l.fn.library l.library (map (λ path. path.now) l.paths) (map (λ path. path.now) (drop l.path-index l.paths))
      (map (λ t. t.items) l.kept.items);
}
