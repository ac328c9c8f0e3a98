use Rattle.std.specs.Prelude.{◌<◌, ℕ, slice_index}
use Rattle.lf_hub_serve.proofs.saving.has_no_zero.Given as goal

abbrev pub invariant-loop-byte : goal.invariant-loop-byte
invariant-loop-byte l = (i : ℕ) → i < l.byte-index → 0 < slice_index l.bytes i
