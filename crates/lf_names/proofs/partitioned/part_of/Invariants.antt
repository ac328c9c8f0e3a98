use Rattle.std.proofs.Common.{◌≡◌, drop}
use Rattle.std.specs.Prelude.{fold}
use Rattle.lf_names.specs.NameParts.{hash_step}
use Rattle.lf_names.proofs.partitioned.part_of.Given as goal

abbrev pub invariant-loop-byte : goal.invariant-loop-byte
invariant-loop-byte l = fold hash_step l.hash (drop l.byte-index l.name) ≡ fold hash_step 0 l.name
