use Rattle.lf_floor_verbs.specs.Tables.{table_cells}
use Rattle.lf_floor_verbs.proofs.Undoing.{cells_before, led_from, newest_fits, none_reaches, undone_fit, undone_moves, undone_reaches}
use Rattle.lf_floor_verbs.proofs.tables.Tables.undo.Goals as goal

pub undo_moves-requires : goal.undo_moves-requires
undo_moves-requires c =
    newest_fits c.args.number c.args.session c.in-Some.moves c.args.self.now (c.in-Some.ensures {u = tt}).front c.requires.fit

pub returns-in-Some-clause-team : goal.returns-in-Some-clause-team
returns-in-Some-clause-team c =
    let popped = c.in-Some.ensures {u = tt} in
    let now = table_cells c.args.number c.args.self.now in
    undone_reaches c.args.number c.args.session c.count_change.result c.in-Some.moves c.args.self.now c.count_change.new.self c.pop.new.self
    c.undo_moves.new.self c.requires.rows popped.front popped.lists
    (c.undo_moves.ensures.own (cells_before c.in-Some.moves now) (led_from c.in-Some.moves now))
    c.count_change.ensures.tables c.count_change.ensures.revision

pub returns-in-Some-clause-fit : goal.returns-in-Some-clause-fit
returns-in-Some-clause-fit c =
    let popped = c.in-Some.ensures {u = tt} in
    undone_fit c.args.number c.args.session c.in-Some.moves c.args.self.now popped.front c.requires.fit c.count_change.new.self
    (returns-in-Some-clause-team c).team_is
    (undone_moves c.args.number c.in-Some.moves c.args.self.now.placement c.undo_moves.new.self c.count_change.new.self.placement
    c.count_change.ensures.tables.placement c.undo_moves.ensures.own c.undo_moves.ensures.others c.undo_moves.ensures.rest)

pub returns-in-None-clause-team : goal.returns-in-None-clause-team
returns-in-None-clause-team c =
    let popped = c.in-None.ensures {u = tt} in
    rw (popped.none) (none_reaches c.args.number c.args.session c.args.self.now popped.front)
