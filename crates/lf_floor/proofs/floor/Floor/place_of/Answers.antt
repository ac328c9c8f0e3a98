use Rattle.std.proofs.Common.{◌≡◌, ◌<◌, ◌+◌, length, sym, ◌∙◌, ap, List, Some, subst}
use Rattle.lf_floorplan.specs.declared.frame.Frame.{Frame}
use Rattle.lf_cells.specs.declared.cell.Cell.{Cell}
use Rattle.lf_cells.specs.declared.cell.CellId.{CellId}
use Rattle.lf_cells.specs.Cells.{working_at}
use Rattle.lf_placement.proofs.Moves.{id_there, none_works}
use Rattle.lf_floor_model.specs.Teams.{team_number}
use Rattle.lf_floor_verbs.specs.Tables.{table_cells}
use Rattle.lf_floor.proofs.Rows.{cells_seen}
use Rattle.lf_floor.proofs.floor.Floor.place_of.Goals as goal

pub returns-in_err-cell_at : goal.returns-in_err-cell_at
returns-in_err-cell_at g c =
    let i = c.self.inside in
    let number = c.in_ok-number.number in
    c.from_residual-in_err-cell_at.ensures
    ∙ sym (cells_seen (λ (cells : List Cell). working_at cells c.args.own) i.tables c.args.self.now c.args.team.now number
    c.self.view_is (subst (λ (f : Frame). Some number ≡ team_number f c.args.team.now) c.frame.ensures c.in_ok-number.ensures.found)
    (rw c.self.invariant.revisions (subst (λ (f : Frame). number < length f.teams + 1) c.frame.ensures c.in_ok-number.ensures.within))
    ∙ none_works (table_cells number i.tables) number c.args.own (sym c.cell_at.ensures ∙ c.in_err-cell_at.was {u = tt}))

pub returns : goal.returns
returns g c =
    let i = c.self.inside in
    let number = c.in_ok-number.number in
    c.working.ensures
    ∙ ap (λ (id : CellId). working_at (table_cells id.team i.tables) id.own)
    (id_there (table_cells number i.tables) number c.args.own c.in_ok-cell_at.field-0 (sym c.cell_at.ensures ∙ c.in_ok-cell_at.was {u = tt}))
    ∙ sym (cells_seen (λ (cells : List Cell). working_at cells c.args.own) i.tables c.args.self.now c.args.team.now number
    c.self.view_is (subst (λ (f : Frame). Some number ≡ team_number f c.args.team.now) c.frame.ensures c.in_ok-number.ensures.found)
    (rw c.self.invariant.revisions (subst (λ (f : Frame). number < length f.teams + 1) c.frame.ensures c.in_ok-number.ensures.within)))
