use Rattle.lf_def.specs.declared.built_in.TheConstants.{DEMO_DEF}
use Rattle.lf_floor_model.specs.Designs.{initial_floor}
use Rattle.lf_lef.specs.declared.built_in.TheConstants.{DEMO_LEF}
use Rattle.lf_task_designs.specs.Designs.{IsTextDesign, IsTextFault}
use Rattle.lf_task_serve.specs.Exits.{IsLinesFault, IsUntouched, streams_alone}
use Rattle.lf_task_serve.specs.Lines.{default_most_lines}
use Rattle.lf_task_files.proofs.DesignSteps.{fails}
use Rattle.lf_task_files.proofs.WorkSteps.{weaker_ok}
use Rattle.lf_app.proofs.tasks.demo.Goals as goal

pub returns-clause-ok : goal.returns-clause-ok
returns-clause-ok g c =
    weaker_ok c.serve_loaded.result _ _ c.serve_loaded.ensures.ok
    (λ status is. (c.in_ok-loaded.loaded, c.in_ok-loaded.ensures.ok, is.0, is.1))

pub returns-clause-err : goal.returns-clause-err
returns-clause-err g c =
    fails (IsTextDesign c.args.limits DEMO_DEF.now DEMO_LEF.now) c.in_ok-loaded.loaded c.in_ok-loaded.ensures.ok c.serve_loaded.result
    (λ fault. IsTextFault c.args.limits DEMO_DEF.now DEMO_LEF.now fault
    × IsUntouched (streams_alone (g.R.Source.remaining c.args.reader.now) (g.R.Source.remaining c.serve_loaded.new.reader)
    (g.W.Sink.contents c.args.writer.now) (g.W.Sink.contents c.serve_loaded.new.writer))) _
    (λ loaded fault. IsLinesFault default_most_lines (initial_floor loaded) fault (g.R.Source.remaining c.args.reader.now) (g.R.Source.remaining c.serve_loaded.new.reader)
    (g.W.Sink.contents c.args.writer.now) (g.W.Sink.contents c.serve_loaded.new.writer)) c.serve_loaded.ensures.err
