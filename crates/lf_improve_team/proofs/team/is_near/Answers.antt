use Rattle.std.proofs.Common.{◌∙◌, sym}
use Rattle.std.proofs.lemmas.Bool.{leb-true}
use Rattle.lf_improve_team.proofs.Near.{all_near}
use Rattle.lf_improve_team.proofs.team.is_near.Goals as goal

pub returns-in-Some : goal.returns-in-Some
returns-in-Some g c = λ team named is own far same.
    all_near c.args.input.now.pass.targets.items c.args.input.now.legal.items team c.args.floor.now c.args.number c.in-Some.far c.team_stats.result named c.team_stats.ensures.tally
    (leb-true c.team_stats.result.max_displacement c.in-Some.far is) own far (sym c.in-Some.is ∙ same)
