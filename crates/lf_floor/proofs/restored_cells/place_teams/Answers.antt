use Rattle.std.proofs.Common.{subst, sym}
use Rattle.lf_cells.specs.Cells.{Cells}
use Rattle.lf_state_text.specs.Saved.{team_views}
use Rattle.lf_floor.specs.Placed.{AreAsMany}
use Rattle.lf_floor.proofs.Framing.{few_placed, sized_placed}
use Rattle.lf_floor.proofs.restored_cells.place_teams.Goals as goal

pub of-requires : goal.of-requires
of-requires c =
    let saved = team_views c.args.rows.now in
    let old = c.into_parts-frame.result.1 in
    let new = c.place_in_table.new.cells in
    let many = subst (λ (cs : Cells). AreAsMany saved cs) (sym c.into_parts-frame.ensures.cells) c.requires in
    record {
      sized = sized_placed saved old new many c.place_in_table.ensures.placed c.into_parts-frame.result.0 c.into_parts-frame.ensures.sized;
      few = few_placed saved old new many c.place_in_table.ensures.placed c.into_parts-frame.ensures.few;
    }
