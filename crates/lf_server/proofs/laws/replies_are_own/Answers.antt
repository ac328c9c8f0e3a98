use Rattle.std.proofs.Common.{sym, refl}
use Rattle.lf_floor_model.proofs.Isolation.{has_number}
use Rattle.lf_server.proofs.OwnReplies.{acts_at, reported_own}
use Rattle.lf_server.proofs.laws.replies_are_own.Goals as goal

pub returns : goal.returns
returns c = λ l team end end' a a' b b' v v' w w' done others s comes comes' frames has_a has_b same.
    let named = has_number a team s has_a in
    let here = reported_own l a.frame team named.0 named.1 done a a' refl (acts_at end l a a' v v' done comes) s has_a in
    let there = reported_own l a.frame team named.0 named.1 others b b' (sym frames) (acts_at end' l b b' w w' others comes') s has_b in
    cc (here, there, same)
