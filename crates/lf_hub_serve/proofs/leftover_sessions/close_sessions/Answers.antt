use Rattle.std.proofs.Common.{refl}
use Rattle.std.specs.Prelude.{IsTrue}
use Rattle.lf_hub_clients.specs.Turns.{IsAnswered}
use Rattle.lf_hub_serve.specs.Saving.{records_of_file}
use Rattle.lf_hub_serve.proofs.Closings.{closes_none, closes_then}
use Rattle.lf_hub_serve.proofs.leftover_sessions.close_sessions.Goals as goal

pub loop-team-init : goal.loop-team-init
loop-team-init g c = record {
  closes = closes_none (IsAnswered g.F.Floor.answers g.F.Floor.shows) c.args.floor.now c.args.floor.now (IsTrue (g.D.Disk.is_clean c.args.journal.now.disk))
      (records_of_file (g.D.Disk.seen c.args.journal.now.disk)) refl;
  usable = c.requires.usable;
  settled = c.requires.settled;
  clean = λ clean. clean;
}

pub loop-team-preserved : goal.loop-team-preserved
loop-team-preserved g c = record {
  closes = closes_then (IsAnswered g.F.Floor.answers g.F.Floor.shows) c.args.floor.now c.loop-team.floor c.close_team.new.floor
      (IsTrue (g.D.Disk.is_clean c.loop-team.journal.disk)) (IsTrue (g.D.Disk.is_clean c.close_team.new.journal.disk))
      (records_of_file (g.D.Disk.seen c.args.journal.now.disk)) (records_of_file (g.D.Disk.seen c.loop-team.journal.disk))
      (records_of_file (g.D.Disk.seen c.close_team.new.journal.disk)) c.loop-team.invariant.closes c.in_ok-close_team.ensures.closes
      c.close_team.ensures.clean;
  usable = c.in_ok-close_team.ensures.usable;
  settled = c.in_ok-close_team.ensures.settled;
  clean = λ clean. c.loop-team.invariant.clean (c.close_team.ensures.clean clean);
}
