use Rattle.std.proofs.Common.{◌+◌, ℕ, length, ap, sym, ◌∙◌}
use Rattle.lf_floorplan.specs.declared.frame.Frame.{Frame}
use Rattle.lf_floor.proofs.Saving.{named_many}
use Rattle.lf_floor.proofs.state_view.count_teams.Goals as goal

pub returns : goal.returns
returns c =
    ap (λ (n : ℕ). n + 1) c.len.ensures ∙ ap (λ (f : Frame). length f.teams + 1) c.frame.ensures ∙ sym c.requires.revisions
    ∙ sym (named_many c.args.tables.now c.requires)
