use Rattle.std.specs.Prelude.{◌≡◌, ℕ, List, [], ◌++◌, IsTrue}
use Rattle.lf_hub_clients.specs.Turns.{IsAnswered}
use Rattle.lf_journal.specs.Journals.{IsSettled}
use Rattle.lf_hub_serve.specs.Saving.{records_of_file}
use Rattle.lf_hub_serve.specs.Serving.{Serves}
use Rattle.lf_hub_serve.specs.Servers.{service_of}
use Rattle.lf_hub_serve.proofs.serving.serve_rounds.Given as goal

abbrev pub invariant-loop : goal.invariant-loop
invariant-loop g l = record {
  served : (saved : List ℕ) × Serves (IsAnswered g.F.Floor.answers g.F.Floor.shows) (service_of g.W.Wire.calls l.fn.server []) (service_of g.W.Wire.calls l.server saved)
      × (IsTrue (g.D.Disk.is_clean l.journal.disk) → records_of_file (g.D.Disk.seen l.journal.disk) ≡ records_of_file (g.D.Disk.seen l.fn.journal.disk) ++ saved);
  usable : IsTrue (g.D.Disk.is_usable l.journal.disk);
  settled : IsTrue (g.D.Disk.is_clean l.journal.disk) → IsSettled g.D.Disk.seen g.D.Disk.may_leave l.journal.disk l.journal.end l.journal.len;
  calm : g.D.Disk.faults l.journal.disk ≡ g.D.Disk.faults l.fn.journal.disk;
  clean : IsTrue (g.D.Disk.is_clean l.journal.disk) → IsTrue (g.D.Disk.is_clean l.fn.journal.disk);
}
