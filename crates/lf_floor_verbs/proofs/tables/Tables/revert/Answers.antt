use Rattle.std.proofs.Common.{◌≡◌, ◌+◌, ℕ, List, Option, ap, map, refl, sym, subst, ◌∙◌}
use Rattle.lf_floorplan.specs.declared.place.Place.{Place}
use Rattle.lf_cells.specs.Cells.{Cells, cells_of}
use Rattle.lf_proto.proofs.Fronts.{on_err_from}
use Rattle.lf_placement.specs.Placements.{Fits, Placing, moves_applied, working_places_of}
use Rattle.lf_floor_model.specs.Changes.{back_to_committed}
use Rattle.lf_floor_verbs.specs.Tables.{table_cells, team_after_change, context_in, team_in}
use Rattle.lf_floor_verbs.proofs.Ends.{reverted_reaches, reverted_short}
use Rattle.lf_floor_verbs.proofs.Fitting.{fit_grown, grown_kept, grown_revision, grown_team}
use Rattle.lf_floor_verbs.proofs.Reverting.{places_reverted}
use Rattle.lf_floor_verbs.proofs.tables.Tables.revert.Goals as goal

pub returns-in_err-moves-clause-err : goal.returns-in_err-moves-clause-err
returns-in_err-moves-clause-err g c = λ l.
    let s = team_in c.args.context.now c.args.self.now in
    on_err_from c.from_residual.result (reverted_short (context_in l c.args.context.now c.args.self.now) c.args.session s s refl)

pub returns-in_err-reserve_entry-clause-err : goal.returns-in_err-reserve_entry-clause-err
returns-in_err-reserve_entry-clause-err g c = λ l.
    let old = c.args.self.now in
    let new = c.reserve_entry.new.self in
    on_err_from c.from_residual-in_err-reserve_entry.result
    (reverted_short (context_in l c.args.context.now old) c.args.session (team_in c.args.context.now old) (team_in c.args.context.now new)
    (grown_team c.args.context.now.number old new c.reserve_entry.ensures.grown))

pub change_places-requires-clause-fits : goal.change_places-requires-clause-fits
change_places-requires-clause-fits g c =
    let number = c.args.context.now.number in
    let p = c.args.self.now.placement in
    let cells = cells_of p.cells number in
    let moves = c.in_ok-moves.moves in
    let back : moves_applied moves cells ≡ map back_to_committed cells =
    subst (λ (cs : Cells). moves_applied moves (cells_of cs number) ≡ map back_to_committed (cells_of cs number)) c.cells.ensures (c.in_ok-moves.ensures {u = tt}) in
    subst (λ (q : Placing). Fits q number (working_places_of (moves_applied moves (cells_of q.cells number)))) (sym c.reserve_entry.ensures.placement)
    (subst (λ (places : List (Option Place)). Fits p number places) (sym (places_reverted cells (moves_applied moves cells) back)) (c.committed_fit.ensures number))

pub returns-clause-ok : goal.returns-clause-ok
returns-clause-ok g c = λ l.
    let number = c.args.context.now.number in
    let old = c.args.self.now in
    let mid = c.reserve_entry.new.self in
    let cells = table_cells number old in
    let moves = c.in_ok-moves.moves in
    let back : moves_applied moves cells ≡ map back_to_committed cells =
    subst (λ (cs : Cells). moves_applied moves (cells_of cs number) ≡ map back_to_committed (cells_of cs number)) c.cells.ensures (c.in_ok-moves.ensures {u = tt}) in
    reverted_reaches (context_in l c.args.context.now old) number c.args.session c.change_places.result old c.change_places.new.self (moves_applied moves cells)
    c.requires.served.limit back
    (c.change_places.ensures.team
    ∙ ap (λ (p : Placing). team_after_change number c.args.session (cells_of p.cells number) (moves_applied moves (cells_of p.cells number)) mid) c.reserve_entry.ensures.placement
    ∙ grown_kept number c.args.session cells (moves_applied moves cells) old mid c.reserve_entry.ensures.grown)
    (c.change_places.ensures.revision ∙ ap (λ (n : ℕ). n + 1) (grown_revision number old mid c.reserve_entry.ensures.grown))

pub returns-clause-fit : goal.returns-clause-fit
returns-clause-fit g c =
    c.change_places.ensures.fit
    (fit_grown c.args.context.now.number c.args.self.now c.reserve_entry.new.self c.reserve_entry.ensures.grown c.requires.served.fit)
