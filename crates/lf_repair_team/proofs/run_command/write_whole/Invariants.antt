use Rattle.std.proofs.Common.{length, ◌-◌, take, ◌≤◌}
use Rattle.std.specs.Io.KnownBytes.{Appends}
use Rattle.lf_repair_team.proofs.run_command.write_whole.Given as goal

abbrev pub invariant-loop-at : goal.invariant-loop-at
invariant-loop-at g l = record {
  within : l.at ≤ length l.bytes;
  written : Appends (g.K.Sink.contents l.fn.lines) (g.K.Sink.contents l.lines) (take l.at l.bytes);
}

abbrev pub decreases-loop-at : goal.decreases-loop-at
decreases-loop-at g l = length l.bytes - l.at
