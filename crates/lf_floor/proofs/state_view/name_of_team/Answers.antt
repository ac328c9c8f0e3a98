use Rattle.std.proofs.Common.{ap, sym, ◌∙◌}
use Rattle.std.specs.Prelude.{slice_get}
use Rattle.lf_floorplan.specs.declared.frame.Frame.{Frame}
use Rattle.lf_floor_model.specs.Teams.{team_names}
use Rattle.lf_floor.proofs.Saving.{named_at}
use Rattle.lf_floor.proofs.state_view.name_of_team.Goals as goal

pub returns : goal.returns
returns c = c.team_name.ensures ∙ ap (λ (f : Frame). slice_get (team_names f) c.args.team) c.frame.ensures ∙ sym (named_at c.args.tables.now c.requires c.args.team)
