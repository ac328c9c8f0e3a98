use Rattle.std.proofs.Common.{◌≡◌, ◌<◌, ℕ, Some}
use Rattle.std.specs.Prelude.{slice_get}
use Rattle.lf_floor_model.specs.Committed.{AreCommittedLegal}
use Rattle.lf_floor_model.specs.States.{TeamState}
use Rattle.lf_task_files.proofs.committed_legality.is_committed_legal.Given as goal

-- The committed places of the teams so far are legal.
abbrev pub invariant-loop-number : goal.invariant-loop-number
invariant-loop-number l = (k : ℕ) (s : TeamState) → k < l.number → slice_get l.floor.teams k ≡ Some s → AreCommittedLegal l.floor.frame k s
