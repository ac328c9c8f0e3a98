use Rattle.lf_frame.specs.Refusals.{HasNoMacro, HasNoSize, HasPartUnits}
use Rattle.lf_frame.proofs.Firsts.{found_more}
use Rattle.lf_frame.proofs.component_checks.macro_faults.Goals as goal

pub loop-number-preserved : goal.loop-number-preserved
loop-number-preserved c =
    let components = c.args.components.now in
    let number = c.loop-number.number in
    let item = c.index-components-number.result in
    let before = c.loop-number.invariant in
    let fault = c.macro_fault-fault in
    record {
      unknown = rw c.first_so_far-unknown.ensures (
          found_more (HasNoMacro c.args.library.now) components number item c.loop-number.unknown fault.result.unknown c.loop-number-test.true c.index-components-number.is fault.ensures.unknown before.unknown
          );
      sizeless = rw c.first_so_far-sizeless.ensures (
          found_more (HasNoSize c.args.library.now) components number item c.loop-number.sizeless fault.result.sizeless c.loop-number-test.true c.index-components-number.is fault.ensures.sizeless before.sizeless
          );
      part_units = rw c.first_so_far-part_units.ensures (
          found_more (HasPartUnits c.args.library.now c.args.units) components number item c.loop-number.part_units fault.result.part_units c.loop-number-test.true c.index-components-number.is fault.ensures.part_units before.part_units
          );
    }
