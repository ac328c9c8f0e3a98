use Rattle.std.proofs.Common.{ap, ◌∙◌, sym}
use Rattle.lf_floorplan.specs.declared.frame.Frame.{Frame}
use Rattle.lf_floor_model.specs.Teams.{team_number}
use Rattle.lf_floor_model.proofs.Isolation.{isolated_from_run, has_number}
use Rattle.lf_floor_model.proofs.laws.others_do_not_matter.Goals as goal

pub returns : goal.returns
returns c = λ l team a a' b b' commands others replies answers s run_a run_b frames has_a has_b same.
    let named = has_number a team s has_a in
    let named_b = ap (λ (f : Frame). team_number f team) (sym frames) ∙ named.1 in
    let here = isolated_from_run l commands replies a a' run_a team named.0 s named.1 has_a in
    let there = isolated_from_run l others answers b b' run_b team named.0 s named_b has_b in
    (cc (here.replies_are, there.replies_are, frames, same), cc (here.state_is, there.state_is, frames, same))
