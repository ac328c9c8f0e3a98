use Rattle.std.proofs.Common.{◌≡◌}
use Rattle.std.specs.Option.{option_map}
use Rattle.lf_orient.specs.Orientation.{rail_below}
use Rattle.lf_floorplan.specs.RowSupport.{rail_alternated}
use Rattle.lf_legalize.proofs.levels.rail_at.Given as goal

abbrev pub invariant-loop : goal.invariant-loop
invariant-loop l = l.rail ≡ option_map (rail_alternated l.counter) (rail_below l.bottom.orient)
