use Rattle.std.proofs.Common.{inl, inr, refl}
use Rattle.std.proofs.lemmas.Result.{err_from_is_err_and, on_ok_weaker}
use Rattle.lf_cli.specs.Command.{repair_paths}
use Rattle.lf_floor.specs.Working.{with_working}
use Rattle.lf_task_faults.specs.declared.faults.OutputKind.TheVariants.{Lines, Save, Working}
use Rattle.lf_task_run.proofs.Ends.{none_fails}
use Rattle.lf_task_files.proofs.WorkSteps.{fails_and, never_fails}
use Rattle.lf_task_run.proofs.results.put_files.Goals as goal

pub save_export-requires : goal.save_export-requires
save_export-requires g c = record { kept = λ none. (c.requires.kept none).export; fits = λ places are. c.requires.fits c.args.floor.now places refl are }

pub save_working-requires : goal.save_working-requires
save_working-requires g c = record { kept = λ none. (c.requires.kept none).working; fits = λ places are. c.requires.fits (with_working c.args.floor.now) places refl are }

pub returns-clause-ok : goal.returns-clause-ok
returns-clause-ok g c = λ text document kept.
    on_ok_weaker c.save_to.result
    (λ saved. record {
      exported = _;
      exports = c.in_ok-save_export.ensures.ok text document kept;
      worked = _;
      works = c.in_ok-save_working.ensures.ok text document kept;
      listed = _;
      lists = c.in_ok-save_lines.ensures.ok;
      saves = saved;
    })
    c.save_to.ensures.ok

pub returns-clause-err : goal.returns-clause-err
returns-clause-err g c = λ text document kept.
    fails_and c.save_to.result _ _ _ c.save_to.ensures.err c.save_to.ensures.unput
    (λ fault why same. inr (inr (inr (
      why,
      record {
        exported = _;
        exports = c.in_ok-save_export.ensures.ok text document kept;
        worked = _;
        works = c.in_ok-save_working.ensures.ok text document kept;
        listed = _;
        lists = c.in_ok-save_lines.ensures.ok;
        saves = same;
      },
    ))))

pub returns-clause-unput : goal.returns-clause-unput
returns-clause-unput g c = λ alone.
    never_fails c.save_to.result _ _ c.save_to.ensures.err
    (λ fault is. none_fails Save (repair_paths c.args.files.now).save fault alone.save is)

pub returns-in_err-save_export-clause-err : goal.returns-in_err-save_export-clause-err
returns-in_err-save_export-clause-err g c = λ text document kept.
    let p = err_from_is_err_and c.from_residual.result c.from_residual.ensures.1 in
    rw (p.1, p.2) (inl (c.in_err-save_export.ensures.err, c.in_err-save_export.ensures.unput))

pub returns-in_err-save_working-clause-err : goal.returns-in_err-save_working-clause-err
returns-in_err-save_working-clause-err g c = λ text document kept.
    let p = err_from_is_err_and c.from_residual-in_err-save_working.result c.from_residual-in_err-save_working.ensures.1 in
    rw (p.1, p.2) (inr (inl (
      c.in_err-save_working.ensures.err,
      record {
        exported = _;
        exports = c.in_ok-save_export.ensures.ok text document kept;
        worked = _;
        works = c.in_err-save_working.ensures.unput;
        listed = _;
        lists = refl;
        saves = refl;
      },
    )))

pub returns-in_err-save_working-clause-unput : goal.returns-in_err-save_working-clause-unput
returns-in_err-save_working-clause-unput g c = λ alone.
    absurd (none_fails Working (repair_paths c.args.files.now).working _ alone.working c.in_err-save_working.ensures.err)

pub returns-in_err-save_lines-clause-err : goal.returns-in_err-save_lines-clause-err
returns-in_err-save_lines-clause-err g c = λ text document kept.
    let p = err_from_is_err_and c.from_residual-in_err-save_lines.result c.from_residual-in_err-save_lines.ensures.1 in
    rw (p.1, p.2) (inr (inr (inl (
      c.in_err-save_lines.ensures.err,
      record {
        exported = _;
        exports = c.in_ok-save_export.ensures.ok text document kept;
        worked = _;
        works = c.in_ok-save_working.ensures.ok text document kept;
        listed = _;
        lists = c.in_err-save_lines.ensures.unput;
        saves = refl;
      },
    ))))

pub returns-in_err-save_lines-clause-unput : goal.returns-in_err-save_lines-clause-unput
returns-in_err-save_lines-clause-unput g c = λ alone.
    absurd (none_fails Lines (repair_paths c.args.files.now).lines _ alone.lines c.in_err-save_lines.ensures.err)
