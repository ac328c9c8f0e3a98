use Rattle.std.specs.Prelude.{IsTrue}
use Rattle.lf_hub_clients.specs.Turns.{IsAnswered}
use Rattle.lf_journal.specs.Journals.{IsSettled}
use Rattle.lf_hub_serve.specs.Saving.{records_of_file}
use Rattle.lf_hub_serve.specs.Leftovers.{Closes}
use Rattle.lf_hub_serve.proofs.leftover_sessions.close_sessions.Given as goal

abbrev pub invariant-loop-team : goal.invariant-loop-team
invariant-loop-team g l = record {
  closes : Closes (IsAnswered g.F.Floor.answers g.F.Floor.shows) l.fn.floor l.floor (IsTrue (g.D.Disk.is_clean l.journal.disk))
      (records_of_file (g.D.Disk.seen l.fn.journal.disk)) (records_of_file (g.D.Disk.seen l.journal.disk));
  usable : IsTrue (g.D.Disk.is_usable l.journal.disk);
  settled : IsTrue (g.D.Disk.is_clean l.journal.disk) → IsSettled g.D.Disk.seen g.D.Disk.may_leave l.journal.disk l.journal.end l.journal.len;
  clean : IsTrue (g.D.Disk.is_clean l.journal.disk) → IsTrue (g.D.Disk.is_clean l.fn.journal.disk);
}
