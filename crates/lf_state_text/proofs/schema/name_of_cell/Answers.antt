use Rattle.std.proofs.Common.{[], ap, sym, ◌∙◌}
use Rattle.std.specs.Prelude.{option_map}
use Rattle.lf_state_text.specs.Designs.{named_team_of}
use Rattle.lf_state_text.proofs.Names.{none_at}
use Rattle.lf_state_text.proofs.schema.name_of_cell.Goals as goal

pub returns-in-None : goal.returns-in-None
returns-in-None g c =
    sym (none_at (named_team_of (g.D.DesignSchema.named c.args.design.now) c.args.team).cells c.args.own []
    (sym c.cell_name.ensures ∙ ap (option_map (λ name. name.now)) c.in-None.is))
