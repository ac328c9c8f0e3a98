use Rattle.lf_def.specs.Ranges.{IsComponent}
use Rattle.lf_frame.specs.Loads.{FixedIsSized}
use Rattle.lf_frame.proofs.convert.fixed_boxes.Goals as goal

pub fixed_box-requires-clause-range : goal.fixed_box-requires-clause-range
fixed_box-requires-clause-range c =
    let range : IsComponent c.component-item.result =
    rw (← c.component-item.is) at (c.requires.range c.loop-component.component-index c.component-item.result c.loop-component-test.true) in
    range

pub fixed_box-requires-clause-sized : goal.fixed_box-requires-clause-sized
fixed_box-requires-clause-sized c =
    let sized : FixedIsSized c.args.library.now c.args.units c.component-item.result =
    rw (← c.component-item.is) at (c.requires.sized c.loop-component.component-index c.component-item.result c.loop-component-test.true) in
    sized
