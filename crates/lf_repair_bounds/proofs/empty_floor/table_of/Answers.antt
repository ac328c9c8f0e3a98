use Rattle.std.proofs.Common.{subst, sym}
use Rattle.lf_repair_bounds.specs.EmptyFloors.{AreUnplaced}
use Rattle.lf_repair_bounds.proofs.EmptyFloorPlaces.{bare_table}
use Rattle.lf_repair_bounds.proofs.empty_floor.table_of.Goals as goal

pub returns : goal.returns
returns c =
    let design = c.in_ok-design.design in
    let are = c.in_ok-design.ensures {u = tt} in
    bare_table c.args.frame.now design c.in_ok-built.built.1 are.frame (subst AreUnplaced (sym are.cells) c.requires.unplaced)
    (c.in_ok-built.ensures {u = tt}).cells
