use Rattle.std.proofs.lemmas.Result.{err_from_is_err_and}
use Rattle.lf_task_designs.proofs.DesignSteps.{fails_here, one_more}
use Rattle.lf_task_designs.proofs.loading.add_files.Goals as goal

pub loop-path-preserved : goal.loop-path-preserved
loop-path-preserved g c = record {
  goes_on = one_more (g.T.InputFiles.gives c.args.texts.now) c.args.library.now c.loop-path.library c.add_file.new.library c.args.paths.now c.loop-path.path-index _
      c.loop-path-test.true c.loop-path.invariant.goes_on c.in_ok-add_file.ensures.ok;
}

pub returns-in_err-add_file-clause-err : goal.returns-in_err-add_file-clause-err
returns-in_err-add_file-clause-err g c =
    let p = err_from_is_err_and c.from_residual.result c.from_residual.ensures.1 in
    rw (p.1, p.2) (fails_here (g.T.InputFiles.gives c.args.texts.now) c.args.library.now c.loop-path.library c.args.paths.now c.loop-path.path-index _ _
    c.loop-path-test.true c.loop-path.invariant.goes_on c.in_err-add_file.ensures.err)
