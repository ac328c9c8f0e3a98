use Rattle.std.proofs.Common.{refl}
use Rattle.std.specs.Prelude.{IsTrue}
use Rattle.lf_hub_clients.specs.Turns.{IsAnswered}
use Rattle.lf_hub_serve.specs.Saving.{records_of_file}
use Rattle.lf_hub_serve.proofs.Closings.{closes_none, closes_then}
use Rattle.lf_hub_serve.proofs.leftover_sessions.close_team.Goals as goal

pub loop-session-init : goal.loop-session-init
loop-session-init g c = record {
  closes = closes_none (IsAnswered g.F.Floor.answers g.F.Floor.shows) c.args.floor.now c.args.floor.now (IsTrue (g.D.Disk.is_clean c.args.journal.now.disk))
      (records_of_file (g.D.Disk.seen c.args.journal.now.disk)) refl;
  usable = c.requires.usable;
  settled = c.requires.settled;
  clean = λ clean. clean;
}

pub loop-session-preserved : goal.loop-session-preserved
loop-session-preserved g c = record {
  closes = closes_then (IsAnswered g.F.Floor.answers g.F.Floor.shows) c.args.floor.now c.loop-session.floor c.close_session.new.floor
      (IsTrue (g.D.Disk.is_clean c.loop-session.journal.disk)) (IsTrue (g.D.Disk.is_clean c.close_session.new.journal.disk))
      (records_of_file (g.D.Disk.seen c.args.journal.now.disk)) (records_of_file (g.D.Disk.seen c.loop-session.journal.disk))
      (records_of_file (g.D.Disk.seen c.close_session.new.journal.disk)) c.loop-session.invariant.closes c.in_ok-close_session.ensures.closes
      c.close_session.ensures.clean;
  usable = c.in_ok-close_session.ensures.usable;
  settled = c.in_ok-close_session.ensures.settled;
  clean = λ clean. c.loop-session.invariant.clean (c.close_session.ensures.clean clean);
}
