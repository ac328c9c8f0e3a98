use Rattle.std.proofs.Common.{◌≤◌, length, refl, subst}
use Rattle.lf_floorplan.specs.declared.frame.Frame.{Frame}
use Rattle.lf_state_text.specs.Saved.{state_text}
use Rattle.lf_floor.specs.Saved.{design_names}
use Rattle.lf_floor.specs.SavedStates.{saved_teams_of}
use Rattle.lf_floor_verbs.specs.Tables.{floor_in}
use Rattle.lf_floor.proofs.Saving.{tables_reported}
use Rattle.lf_floor.proofs.state_view.put_tables.Goals as goal

pub returns : goal.returns
returns g c =
    let tables = c.args.tables.now in
    (state_text (design_names (floor_in tables)) (saved_teams_of tables), (saved_teams_of tables, tables_reported tables c.requires (subst (λ (f : Frame). length f.teams ≤ 1024) c.frame.ensures c.fences_are_few.ensures) c.write_tables.ensures.in_range, refl), c.write_tables.ensures.text)
