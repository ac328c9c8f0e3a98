use Rattle.std.proofs.Common.{sym, subst}
use Rattle.lf_floorplan.specs.declared.frame.Frame.{Frame}
use Rattle.lf_placement.specs.Placements.{AreSized}
use Rattle.lf_placement.proofs.Keeping.{few_opening, sized_opening}
use Rattle.lf_placement.proofs.build.cells_in.Goals as goal

pub returns-clause-sized : goal.returns-clause-sized
returns-clause-sized c =
    let built = c.in_ok-built.built in
    let are = c.in_ok-built.ensures {u = tt} in
    subst (λ (f : Frame). AreSized f built.1) (sym are.frame) (sized_opening c.args.loaded built.1 are.cells)

pub returns-clause-few : goal.returns-clause-few
returns-clause-few c = few_opening c.args.loaded c.in_ok-built.built.1 (c.in_ok-built.ensures {u = tt}).cells
