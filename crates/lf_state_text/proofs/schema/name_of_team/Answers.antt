use Rattle.std.proofs.Common.{[], ap, sym, ◌∙◌}
use Rattle.std.specs.Prelude.{option_map, slice_get}
use Rattle.lf_state_text.specs.Designs.{NamedTeam}
use Rattle.lf_state_text.proofs.Names.{none_at, none_mapped}
use Rattle.lf_state_text.proofs.schema.name_of_team.Goals as goal

pub returns-in-None : goal.returns-in-None
returns-in-None g c =
    let teams = (g.D.DesignSchema.named c.args.design.now).teams in
    sym (ap (λ (t : NamedTeam). t.name) (none_at teams c.args.team record { name = []; cells = [] }
    (none_mapped (λ (t : NamedTeam). t.name) (slice_get teams c.args.team) (sym c.team_name.ensures ∙ ap (option_map (λ name. name.now)) c.in-None.is))))
