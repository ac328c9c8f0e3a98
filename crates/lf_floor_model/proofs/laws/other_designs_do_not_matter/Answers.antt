use Rattle.std.proofs.Common.{ap, ◌∙◌, sym}
use Rattle.lf_floorplan.specs.declared.frame.Frame.{Frame}
use Rattle.lf_floor_model.specs.Teams.{team_number}
use Rattle.lf_floor_model.specs.Designs.{initial_floor, initial_team}
use Rattle.lf_floor_model.proofs.Isolation.{isolated_from_run}
use Rattle.lf_floor_model.proofs.Openings.{opening_is, agreeing_is}
use Rattle.lf_floor_model.proofs.laws.other_designs_do_not_matter.Goals as goal

pub returns : goal.returns
returns c = λ l team a b a' b' commands others replies answers agree run_a run_b same.
    let s = initial_team a agree.number in
    let frames = agree.frames in
    let named_b = ap (λ (f : Frame). team_number f team) (sym frames) ∙ agree.named in
    let here = isolated_from_run l commands replies (initial_floor a) a' run_a team agree.number s agree.named (opening_is a team agree.number agree.named) in
    let there = isolated_from_run l others answers (initial_floor b) b' run_b team agree.number s named_b (agreeing_is a b team agree) in
    (cc (here.replies_are, there.replies_are, frames, same), cc (here.state_is, there.state_is, frames, same))
