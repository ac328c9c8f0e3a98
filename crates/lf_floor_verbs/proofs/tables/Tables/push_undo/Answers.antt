use Rattle.lf_floor_verbs.proofs.Ends.{kept_team}
use Rattle.lf_floor_verbs.proofs.tables.Tables.push_undo.Goals as goal

pub returns-clause-team : goal.returns-clause-team
returns-clause-team c = λ before have.
    kept_team c.args.number c.args.session before c.args.moves c.args.self.now c.push.new.self c.count_change.new.self c.requires.rows
    (c.in-Ok.ensures {u = tt}).lists c.count_change.ensures.tables have
