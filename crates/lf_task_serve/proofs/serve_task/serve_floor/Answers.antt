use Rattle.std.proofs.Common.{◌∙◌, ap, inl, inr, refl}
use Rattle.std.proofs.lemmas.Result.{err_from_is_err_and}
use Rattle.lf_task_files.specs.Inputs.{path_of}
use Rattle.lf_task_files.proofs.WorkSteps.{blames_as, export_blames}
use Rattle.lf_task_serve.proofs.LineSteps.{done_beside, fault_beside, outputs_unfinished}
use Rattle.lf_task_serve.proofs.serve_task.serve_floor.Goals as goal

pub write_outputs-requires : goal.write_outputs-requires
write_outputs-requires g c = record { kept = c.requires.kept; fits = λ places are. c.requires.fits c.serve_source.new.floor places c.serve_source.ensures.components are }

pub returns-clause-ok : goal.returns-clause-ok
returns-clause-ok g c = λ text document kept.
    let put = c.in_ok-write_outputs.ensures.ok text document kept in (
      refl,
      record {
        floor = c.serve_source.new.floor;
        work = done_beside c.args.lines c.args.floor.now c.serve_source.new.floor _ _ _ _ _ _ _ _ _ _ c.in_ok-serve_source.ensures.ok;
        between = put.0;
        exports = rw (c.serve_source.ensures.exports, c.check_outputs.ensures.unput) at put.1;
        saves = put.2;
      },
    )

pub returns-in_err-check_outputs-clause-err : goal.returns-in_err-check_outputs-clause-err
returns-in_err-check_outputs-clause-err g c = λ text document kept.
    let p = err_from_is_err_and c.from_residual.result c.from_residual.ensures.1 in
    rw (p.1, p.2) (
      inl (
        inr (inl (c.in_err-check_outputs.ensures.err, record { unread = refl; unwritten = refl; unput = c.check_outputs.ensures.unput; unaccepted = refl })),
        c.check_outputs.ensures.unput,
      ),
      export_blames _ _ _ _ _ _ _ _ _ c.in_err-check_outputs.ensures.fails (λ fails. fails)
          (λ sound. record { exports = sound; services = refl; reader = refl; writer = refl }),
    )

pub returns-in_err-serve_source-clause-err : goal.returns-in_err-serve_source-clause-err
returns-in_err-serve_source-clause-err g c = λ text document kept.
    let p = err_from_is_err_and c.from_residual-in_err-serve_source.result c.from_residual-in_err-serve_source.ensures.1 in
    let why = c.in_err-serve_source.ensures.err in
    rw (p.1, p.2) (
      inl (
        inl (fault_beside c.args.lines c.args.floor.now _ _ _ _ _ _ _ _ _ _ _ why.0),
        ap (λ e. g.D.Exports.OutputFiles.puts e) c.serve_source.ensures.exports ∙ c.check_outputs.ensures.unput,
      ),
      blames_as _ _ _ _ _ _ _ _ _ _ _ _ _ why.1 (λ k. k) (λ r. r) (λ w. w) (λ e. e) (λ s. s)
          (λ sound. record { exports = sound.exports ∙ c.in_ok-check_outputs.ensures.sound; services = sound.services; reader = sound.reader; writer = sound.writer }),
    )

pub returns-in_err-write_outputs-clause-err : goal.returns-in_err-write_outputs-clause-err
returns-in_err-write_outputs-clause-err g c = λ text document kept.
    let p = err_from_is_err_and c.from_residual-in_err-write_outputs.result c.from_residual-in_err-write_outputs.ensures.1 in
    let sound = c.in_ok-serve_source.ensures.sound in
    rw (p.1, p.2) (
      outputs_unfinished (path_of c.args.outputs.save) (path_of c.args.outputs.export) c.args.lines c.args.floor.now c.serve_source.new.floor text document _ _
          (done_beside c.args.lines c.args.floor.now c.serve_source.new.floor _ _ _ _ _ _ _ _ _ _ c.in_ok-serve_source.ensures.ok)
          (rw (c.serve_source.ensures.exports, c.check_outputs.ensures.unput) at (c.in_err-write_outputs.ensures.err text document kept)),
      export_blames _ _ _ _ _ _ _ _ _ c.in_err-write_outputs.ensures.fails (λ fails. fails)
          (λ same. record { exports = same ∙ sound.exports ∙ c.in_ok-check_outputs.ensures.sound; services = sound.services; reader = sound.reader; writer = sound.writer }),
    )
