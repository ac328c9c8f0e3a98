use Rattle.std.proofs.Common.{drop, map}
use Rattle.lf_task_designs.proofs.DesignSteps.{GoesOn}
use Rattle.lf_task_designs.proofs.loading.add_files.Given as goal

-- The remaining paths continue with the library.
abbrev pub invariant-loop-path : goal.invariant-loop-path
invariant-loop-path g l = record {
  goes_on : GoesOn (g.T.InputFiles.gives l.texts) l.fn.library l.library (map (λ path. path.now) l.paths) (map (λ path. path.now) (drop l.path-index l.paths));
}
