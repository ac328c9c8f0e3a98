use Rattle.lf_floor_verbs.proofs.Padding.{padded_fit, padded_reaches, rows_padded}
use Rattle.lf_floor_verbs.proofs.tables.Tables.pad.Goals as goal

pub count_change-requires-clause-rows : goal.count_change-requires-clause-rows
count_change-requires-clause-rows c =
    rows_padded c.args.number c.args.session c.args.padding c.args.self.now c.set_padding.new.self c.set_padding.new.self c.requires.rows c.set_padding.ensures

pub returns-clause-team : goal.returns-clause-team
returns-clause-team c =
    padded_reaches c.args.number c.args.session c.args.padding c.args.self.now c.set_padding.new.self c.count_change.new.self c.requires.rows
    c.set_padding.ensures c.count_change.ensures.tables c.count_change.result c.count_change.ensures.revision

pub returns-clause-fit : goal.returns-clause-fit
returns-clause-fit c =
    padded_fit c.args.number c.args.session c.args.padding c.args.self.now c.set_padding.new.self c.count_change.new.self c.requires.rows
    c.set_padding.ensures c.count_change.ensures.tables c.requires.fit
