use Rattle.std.proofs.Common.{◌≡◌, ◌+◌, ◌-◌, IsTrue, length}
use Rattle.lf_journal_text.specs.Batches.{recovered}
use Rattle.lf_journal.specs.Journals.{IsSettled}
use Rattle.lf_journal.proofs.journal.Journal.put.Given as goal

abbrev pub invariant-loop-self : goal.invariant-loop-self
invariant-loop-self g l =
    record {
      usable : IsTrue (g.D.Disk.is_usable l.self.disk);
      settled : IsTrue (g.D.Disk.is_clean l.self.disk) → IsSettled g.D.Disk.seen g.D.Disk.may_leave l.self.disk l.self.end l.self.len × (recovered (g.D.Disk.seen l.self.disk) ≡ recovered (g.D.Disk.seen l.fn.self.disk));
      end : l.self.end ≡ l.fn.self.end;
      clean : IsTrue (g.D.Disk.is_clean l.self.disk) → IsTrue (g.D.Disk.is_clean l.fn.self.disk);
      faults : g.D.Disk.faults l.self.disk ≡ g.D.Disk.faults l.fn.self.disk;
    }

abbrev pub decreases-loop-self : goal.decreases-loop-self
decreases-loop-self g l = l.self.end + length l.batch + 1 - l.self.len
