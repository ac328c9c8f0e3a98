use Rattle.std.proofs.Common.{◌≤◌, length, refl, subst}
use Rattle.lf_floorplan.specs.declared.frame.Frame.{Frame}
use Rattle.lf_floor.specs.SavedStates.{saved_teams_of}
use Rattle.lf_floor.proofs.Saving.{tables_reported}
use Rattle.lf_floor.proofs.snapshot.snapshot_of.Goals as goal

pub returns : goal.returns
returns c =
    let tables = c.args.tables.now in
    (saved_teams_of tables, tables_reported tables c.requires (subst (λ (f : Frame). length f.teams ≤ 1024) c.frame.ensures c.fences_are_few.ensures) c.write_tables.ensures.in_range, refl)
