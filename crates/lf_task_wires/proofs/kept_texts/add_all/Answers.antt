use Rattle.std.proofs.Common.{ap, map, arith}
use Rattle.std.proofs.lemmas.Result.{err_from_is_err_and}
use Rattle.lf_task_wires.proofs.Keeping.{all_kept, keeps_first, kept_fault, one_kept}
use Rattle.lf_task_wires.proofs.kept_texts.add_all.Goals as goal

pub loop-path-init : goal.loop-path-init
loop-path-init g c = record {
  keeps_on = keeps_first (g.T.InputFiles.gives c.args.texts.now) c.args.library.now (map (λ path. path.now) c.args.paths.now) (map (λ t. t.items) c.args.kept.now.items)
      (ap (map (λ t. t.items)) c.requires);
}

pub loop-path-preserved : goal.loop-path-preserved
loop-path-preserved g c =
    let added = c.in_ok-add_kept.ensures.ok in
    record {
      keeps_on = rw added.3 (one_kept (g.T.InputFiles.gives c.args.texts.now) c.args.library.now c.loop-path.library c.add_kept.new.library c.args.paths.now
          (map (λ t. t.items) c.loop-path.kept.items) c.loop-path.path-index _ added.0
          c.loop-path-test.true c.loop-path.invariant.keeps_on added.1 added.2);
    }

pub returns-clause-ok : goal.returns-clause-ok
returns-clause-ok g c =
    all_kept (g.T.InputFiles.gives c.args.texts.now) c.args.library.now c.loop-path.library c.args.paths.now (map (λ t. t.items) c.loop-path.kept.items) c.loop-path.path-index
    (omega (arith, c.loop-path-test.false)) c.loop-path.invariant.keeps_on

pub returns-in_err-add_kept-clause-err : goal.returns-in_err-add_kept-clause-err
returns-in_err-add_kept-clause-err g c =
    let p = err_from_is_err_and c.from_residual.result c.from_residual.ensures.1 in
    rw (p.1, p.2) (kept_fault (g.T.InputFiles.gives c.args.texts.now) c.args.library.now c.loop-path.library c.args.paths.now (map (λ t. t.items) c.loop-path.kept.items) c.loop-path.path-index _ _
    c.loop-path-test.true c.loop-path.invariant.keeps_on c.in_err-add_kept.ensures.err)
