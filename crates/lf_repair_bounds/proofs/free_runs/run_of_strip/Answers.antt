use Rattle.std.proofs.Common.{subst, arith}
use Rattle.std.specs.Prelude.{slice_get}
use Rattle.std.proofs.lemmas.Int.{ints}
use Rattle.std.proofs.lemmas.Option.{slice_get_within}
use Rattle.lf_floorplan.specs.declared.parts.Row.{Row}
use Rattle.lf_repair_bounds.specs.FreeRuns.{LiesOnRow}
use Rattle.lf_repair_bounds.proofs.TeamRunLemmas.{same_row}
use Rattle.lf_repair_bounds.proofs.free_runs.run_of_strip.Goals as goal

pub row_at-row-requires : goal.row_at-row-requires
row_at-row-requires c = slice_get_within c.args.frame.now.rows c.args.strip.now.row c.requires.row c.requires.is_in_place

pub widest_in-requires : goal.widest_in-requires
widest_in-requires c =
    let same = same_row c.requires.row c.row_at-row.result.now (slice_get c.args.frame.now.rows c.args.strip.now.row) c.requires.is_in_place c.row_at-row.ensures in
    subst (λ (r : Row). LiesOnRow c.args.frame.now r c.args.strip.now.area) same c.requires.lies

pub returns : goal.returns
returns c = record { row = c.row_at-row.result.now; is_in_place = c.row_at-row.ensures; y = omega (arith, ints); widest = c.in_ok-width.ensures }
