use Rattle.std.proofs.Common.{ℕ, sym, subst}
use Rattle.std.specs.Prelude.{All}
use Rattle.lf_floorplan.specs.declared.frame.Frame.{Frame}
use Rattle.lf_cells.specs.Cells.{cells_of}
use Rattle.lf_occupancy.specs.Floorplans.{HasSize}
use Rattle.lf_tests_floor.proofs.Sized.{sized}
use Rattle.lf_tests_floor.proofs.strips.tables_of.Goals as goal

pub returns : goal.returns
returns c =
    let built = c.in_ok-built.built in
    let are = c.in_ok-built.ensures {u = tt} in
    subst (λ (f : Frame). (team : ℕ) → All (HasSize f) (cells_of built.1 team)) (sym are.frame) (sized c.args.design built.1 are.cells)
