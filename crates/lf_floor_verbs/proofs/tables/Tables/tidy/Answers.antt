use Rattle.std.proofs.Common.{◌+◌, ℕ, ap, refl, subst, ◌∙◌}
use Rattle.lf_cells.specs.Cells.{cells_of}
use Rattle.lf_proto.proofs.Fronts.{on_err_from}
use Rattle.lf_placement.specs.Placements.{Placing, SameButPlaces}
use Rattle.lf_floor_verbs.specs.Tables.{table_cells, team_after_change, own_team, context_at, context_in, team_in}
use Rattle.lf_floor_verbs.specs.Tidying.{TidiesCells}
use Rattle.lf_floor_verbs.proofs.Ends.{back_to, stuck_reaches, tidied_reaches, tidy_short}
use Rattle.lf_floor_verbs.proofs.Fitting.{back_fits, entries_stay, fit_grown, grown_kept, grown_revision, grown_team, kept_fit, rooms_through, same_rooms}
use Rattle.lf_floor_verbs.proofs.Moves.{from_none}
use Rattle.lf_floor_verbs.proofs.tables.Tables.tidy.Goals as goal

pub returns-in_err-marks-clause-err : goal.returns-in_err-marks-clause-err
returns-in_err-marks-clause-err g c = λ l.
    let s = team_in c.args.context.now c.args.self.now in
    on_err_from c.from_residual.result (tidy_short (context_in l c.args.context.now c.args.self.now) c.args.session s s refl)

pub returns-in_err-moves-clause-err : goal.returns-in_err-moves-clause-err
returns-in_err-moves-clause-err g c = λ l.
    let s = team_in c.args.context.now c.args.self.now in
    on_err_from c.from_residual-in_err-moves.result (tidy_short (context_in l c.args.context.now c.args.self.now) c.args.session s s refl)

pub returns-in_err-reserve_entry-clause-err : goal.returns-in_err-reserve_entry-clause-err
returns-in_err-reserve_entry-clause-err g c = λ l.
    let old = c.args.self.now in
    let new = c.reserve_entry.new.self in
    on_err_from c.from_residual-in_err-reserve_entry.result
    (tidy_short (context_in l c.args.context.now old) c.args.session (team_in c.args.context.now old) (team_in c.args.context.now new)
    (grown_team c.args.context.now.number old new c.reserve_entry.ensures.grown))

pub returns-in-Ok-Done-clause-ok : goal.returns-in-Ok-Done-clause-ok
returns-in-Ok-Done-clause-ok g c = λ l.
    let number = c.args.context.now.number in
    let old = c.args.self.now in
    let mid = c.reserve_entry.new.self in
    let before = table_cells number mid in
    let now = cells_of c.tidy_cells.new.placement.cells number in
    let still = c.reserve_entry.ensures.placement in
    let have = c.tidy_cells.ensures.moved before (from_none before c.in_ok-moves.moves (c.in_ok-moves.ensures {u = tt})) in
    tidied_reaches (context_in l c.args.context.now old) number c.args.session c.push_undo-revision.result c.in-Ok-Done.moved old c.push_undo-revision.new.self now
    c.in-Ok-Done.field-0 c.requires.change.served.limit
    (subst (λ (p : Placing). TidiesCells (context_at l c.args.context.now p) (cells_of p.cells number) now c.in-Ok-Done.field-0) still ((c.in-Ok-Done.ensures {u = tt}).ok l))
    c.in-Ok-Done.field-0-is
    (subst (λ (p : Placing). SameButPlaces (cells_of p.cells number) now) still c.tidy_cells.ensures.only.same)
    (c.push_undo-revision.ensures.team before have
    ∙ ap (λ (p : Placing). team_after_change number c.args.session (cells_of p.cells number) now mid) still
    ∙ grown_kept number c.args.session (table_cells number old) now old mid c.reserve_entry.ensures.grown)
    (c.push_undo-revision.ensures.revision ∙ ap (λ (n : ℕ). n + 1) (grown_revision number old mid c.reserve_entry.ensures.grown))

pub returns-in-Ok-Done-clause-fit : goal.returns-in-Ok-Done-clause-fit
returns-in-Ok-Done-clause-fit g c =
    let number = c.args.context.now.number in
    let old = c.args.self.now in
    let mid = c.reserve_entry.new.self in
    let before = table_cells number mid in
    kept_fit number c.args.session (cells_of c.tidy_cells.new.placement.cells number) mid c.push_undo-revision.new.self
    (rw c.push_undo-revision.ensures.placement c.tidy_cells.ensures.only) (c.boxes_match_places.ensures number)
    (c.push_undo-revision.ensures.team before (c.tidy_cells.ensures.moved before (from_none before c.in_ok-moves.moves (c.in_ok-moves.ensures {u = tt}))))
    (fit_grown number old mid c.reserve_entry.ensures.grown c.requires.change.served.fit)

pub undo_moves-requires : goal.undo_moves-requires
undo_moves-requires g c =
    let number = c.args.context.now.number in
    let before = table_cells number c.reserve_entry.new.self in
    back_fits number c.tidy_cells.new.moves before c.reserve_entry.new.self.placement c.tidy_cells.new.placement c.tidy_cells.ensures.only (c.boxes_match_places.ensures number)
    (c.tidy_cells.ensures.moved before (from_none before c.in_ok-moves.moves (c.in_ok-moves.ensures {u = tt})))

pub undo_moves-requires-in-Err : goal.undo_moves-requires-in-Err
undo_moves-requires-in-Err g c =
    let number = c.args.context.now.number in
    let before = table_cells number c.reserve_entry.new.self in
    back_fits number c.tidy_cells.new.moves before c.reserve_entry.new.self.placement c.tidy_cells.new.placement c.tidy_cells.ensures.only (c.boxes_match_places.ensures number)
    (c.tidy_cells.ensures.moved before (from_none before c.in_ok-moves.moves (c.in_ok-moves.ensures {u = tt})))

pub returns-in-Ok-Stopped-clause-ok : goal.returns-in-Ok-Stopped-clause-ok
returns-in-Ok-Stopped-clause-ok g c = λ l.
    let number = c.args.context.now.number in
    let old = c.args.self.now in
    let mid = c.reserve_entry.new.self in
    let before = table_cells number mid in
    let now = cells_of c.tidy_cells.new.placement.cells number in
    let have = c.tidy_cells.ensures.moved before (from_none before c.in_ok-moves.moves (c.in_ok-moves.ensures {u = tt})) in
    stuck_reaches (context_in l c.args.context.now old) c.args.session c.in-Ok-Stopped.cell (team_in c.args.context.now old)
    (own_team number record mid { placement = c.undo_moves.new.self }) now c.in-Ok-Stopped.field-0
    (subst (λ (p : Placing). TidiesCells (context_at l c.args.context.now p) (cells_of p.cells number) now c.in-Ok-Stopped.field-0) c.reserve_entry.ensures.placement
    ((c.in-Ok-Stopped.ensures {u = tt}).ok l)) c.in-Ok-Stopped.field-0-is
    (back_to number mid c.undo_moves.new.self (c.undo_moves.ensures.own before have) ∙ grown_team number old mid c.reserve_entry.ensures.grown)

pub returns-clause-err : goal.returns-clause-err
returns-clause-err g c = λ l.
    let number = c.args.context.now.number in
    let old = c.args.self.now in
    let mid = c.reserve_entry.new.self in
    let before = table_cells number mid in
    let have = c.tidy_cells.ensures.moved before (from_none before c.in_ok-moves.moves (c.in_ok-moves.ensures {u = tt})) in
    tidy_short (context_in l c.args.context.now old) c.args.session (team_in c.args.context.now old)
    (own_team number record mid { placement = c.undo_moves-in-Err.new.self })
    (back_to number mid c.undo_moves-in-Err.new.self (c.undo_moves-in-Err.ensures.own before have) ∙ grown_team number old mid c.reserve_entry.ensures.grown)

pub returns-in-Ok-Stopped-clause-fit : goal.returns-in-Ok-Stopped-clause-fit
returns-in-Ok-Stopped-clause-fit g c =
    let number = c.args.context.now.number in
    let old = c.args.self.now in
    let mid = c.reserve_entry.new.self in
    let sent = c.tidy_cells.new.placement in
    let back = c.undo_moves.new.self in
    let before = table_cells number mid in
    let have = c.tidy_cells.ensures.moved before (from_none before c.in_ok-moves.moves (c.in_ok-moves.ensures {u = tt})) in
    entries_stay number mid record mid { placement = back }
    (rooms_through mid.placement sent back c.tidy_cells.ensures.only.ground (same_rooms sent back c.undo_moves.ensures.rest))
    (back_to number mid back (c.undo_moves.ensures.own before have)) (fit_grown number old mid c.reserve_entry.ensures.grown c.requires.change.served.fit)

pub returns-clause-fit : goal.returns-clause-fit
returns-clause-fit g c =
    let number = c.args.context.now.number in
    let old = c.args.self.now in
    let mid = c.reserve_entry.new.self in
    let sent = c.tidy_cells.new.placement in
    let back = c.undo_moves-in-Err.new.self in
    let before = table_cells number mid in
    let have = c.tidy_cells.ensures.moved before (from_none before c.in_ok-moves.moves (c.in_ok-moves.ensures {u = tt})) in
    entries_stay number mid record mid { placement = back }
    (rooms_through mid.placement sent back c.tidy_cells.ensures.only.ground (same_rooms sent back c.undo_moves-in-Err.ensures.rest))
    (back_to number mid back (c.undo_moves-in-Err.ensures.own before have)) (fit_grown number old mid c.reserve_entry.ensures.grown c.requires.change.served.fit)
