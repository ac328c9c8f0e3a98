use Rattle.std.proofs.Common.{[], drop, map}
use Rattle.lf_task_wires.proofs.Keeping.{ReadsOn}
use Rattle.lf_task_wires.proofs.second_reading.pins_of.Given as goal

-- The remaining texts continue with the macros so far.
abbrev pub invariant-loop-at : goal.invariant-loop-at
invariant-loop-at l = record {
  reads_on : ReadsOn [] l.macros (map (λ path. path.now) l.paths) (map (λ t. t.items) l.texts) (map (λ path. path.now) (drop l.at l.paths))
      (map (λ t. t.items) (drop l.at l.texts));
}
