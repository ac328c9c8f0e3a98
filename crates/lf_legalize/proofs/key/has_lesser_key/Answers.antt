use Rattle.std.proofs.Common.{◌≡◌, ap, of_z, w32, FitsSigned, rules, ◌∙◌, sym}
use Rattle.lf_legalize.proofs.Narrow.{same_narrow, less_narrow}
use Rattle.lf_rules.specs.Choice.{SpotPlace, distance, spot_of}
use Rattle.lf_rules.proofs.Order.{by_x, by_rank, rank_test}
use Rattle.lf_legalize.proofs.key.has_lesser_key.Goals as goal

pub returns-then-first-second-2 : goal.returns-then-first-second-2
returns-then-first-second-2 c =
    let p : SpotPlace = spot_of c.args.first.now in
    let q : SpotPlace = spot_of c.args.second.now in
    let px : FitsSigned w32 p.x = search rules in
    let qx : FitsSigned w32 q.x = search rules in
    let py : FitsSigned w32 p.y = search rules in
    let qy : FitsSigned w32 q.y = search rules in
    let same : distance c.args.target.now p ≡ distance c.args.target.now q = sym c.distance-near.ensures ∙ c.if-near-far.false ∙ c.distance-far.ensures in
    let b = by_x c.args.target.now p q same (same_narrow p.y q.y py qy c.if-first-second.false) (λ e. c.if-first-second-2.true (ap (of_z w32) e)) in
    let l = less_narrow p.x q.x px qx in
    (λ t. b.0 (l.0 t), λ s. l.1 (b.1 s))

pub returns : goal.returns
returns c =
    let p : SpotPlace = spot_of c.args.first.now in
    let q : SpotPlace = spot_of c.args.second.now in
    let px : FitsSigned w32 p.x = search rules in
    let qx : FitsSigned w32 q.x = search rules in
    let py : FitsSigned w32 p.y = search rules in
    let qy : FitsSigned w32 q.y = search rules in
    let same : distance c.args.target.now p ≡ distance c.args.target.now q = sym c.distance-near.ensures ∙ c.if-near-far.false ∙ c.distance-far.ensures in
    let b = by_rank c.args.target.now p q same (same_narrow p.y q.y py qy c.if-first-second.false) (same_narrow p.x q.x px qx c.if-first-second-2.false) in
    rank_test c.rank.result c.rank-2.result _ _ _ c.rank.ensures c.rank-2.ensures b
