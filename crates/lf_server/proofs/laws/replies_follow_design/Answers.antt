use Rattle.std.proofs.Common.{sym, refl}
use Rattle.lf_floor_model.specs.Designs.{initial_floor, initial_team}
use Rattle.lf_floor_model.proofs.Openings.{opening_is, agreeing_is}
use Rattle.lf_server.proofs.OwnReplies.{acts_at, reported_own}
use Rattle.lf_server.proofs.laws.replies_follow_design.Goals as goal

pub returns : goal.returns
returns c = λ l team end end' a b a' b' v v' w w' done others agree comes comes' same.
    let s = initial_team a agree.number in
    let here = reported_own l a.frame team agree.number agree.named done (initial_floor a) a' refl (acts_at end l (initial_floor a) a' v v' done comes) s
    (opening_is a team agree.number agree.named) in
    let there = reported_own l a.frame team agree.number agree.named others (initial_floor b) b' (sym agree.frames)
    (acts_at end' l (initial_floor b) b' w w' others comes') s (agreeing_is a b team agree) in
    cc (here, there, same)
