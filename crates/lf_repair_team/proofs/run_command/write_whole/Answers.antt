use Rattle.std.proofs.Common.{arith, take}
use Rattle.lf_io.proofs.Known.{Appends-more, Appends-same, joined}
use Rattle.lf_repair_team.specs.Runs.{AppendsSomeOf}
use Rattle.lf_repair_team.proofs.Results.{err_from}
use Rattle.lf_repair_team.proofs.Runs.{kept_after}
use Rattle.lf_repair_team.proofs.run_command.write_whole.Goals as goal

pub loop-at-preserved : goal.loop-at-preserved
loop-at-preserved g c = record {
  within = omega (arith, c.in_ok-at.ensures.bound);
  written = Appends-same _ _ _ _ (joined c.loop-at.at c.in_ok-at.field-0 c.args.bytes.now) (Appends-more _ _ _ _ _ c.loop-at.invariant.written c.in_ok-at.ensures.bytes);
}

pub returns-in_err-at-clause-err : goal.returns-in_err-at-clause-err
returns-in_err-at-clause-err g c =
    err_from c.from_residual.result (AppendsSomeOf (g.K.Sink.contents c.args.lines.now) (g.K.Sink.contents c.write.new.self) c.args.bytes.now) (
      c.loop-at.at,
      kept_after (g.K.Sink.contents c.args.lines.now) (g.K.Sink.contents c.loop-at.lines) (g.K.Sink.contents c.write.new.self)
          (take c.loop-at.at c.args.bytes.now) c.loop-at.invariant.written c.in_err-at.ensures.bytes,
    )
