use Rattle.lf_frame.specs.Refusals.{HasNoMacro, HasNoSize, HasPartUnits}
use Rattle.lf_frame.proofs.Firsts.{FoundBelow}
use Rattle.lf_frame.proofs.component_checks.macro_faults.Given as goal

abbrev pub invariant-loop-number : goal.invariant-loop-number
invariant-loop-number l = record {
  unknown : FoundBelow (HasNoMacro l.library) l.components l.number l.unknown;
  sizeless : FoundBelow (HasNoSize l.library) l.components l.number l.sizeless;
  part_units : FoundBelow (HasPartUnits l.library l.units) l.components l.number l.part_units;
}
