use Rattle.std.proofs.Common.{◌≡◌, ◌<◌, ◌+◌, length, sym, ◌∙◌, ap, List, Some, subst}
use Rattle.std.specs.Prelude.{option_map}
use Rattle.lf_floorplan.specs.declared.frame.Frame.{Frame}
use Rattle.lf_cells.specs.declared.cell.Cell.{Cell}
use Rattle.lf_cells.specs.declared.cell.CellFacts.{CellFacts}
use Rattle.lf_cells.specs.Cells.{Cells, cell_at}
use Rattle.lf_floor_model.specs.Outcomes.{name_at}
use Rattle.lf_floor_model.specs.Teams.{IsTeamOf, team_number}
use Rattle.lf_floor_verbs.specs.Tables.{table_cells, frame_of}
use Rattle.lf_floor_verbs.proofs.Seeking.{names_none, name_reported, name_printed}
use Rattle.lf_floor.proofs.Rows.{cells_seen, each_team}
use Rattle.lf_floor.proofs.floor.Floor.name_of.Goals as goal

pub returns-in_err-id-clause-name : goal.returns-in_err-id-clause-name
returns-in_err-id-clause-name g c =
    let i = c.self.inside in
    let number = c.in_ok-number.number in
    ap (option_map (λ name. name.now)) c.from_residual-in_err-id.ensures
    ∙ sym (cells_seen (λ (cells : List Cell). name_at cells c.args.own) i.tables c.args.self.now c.args.team.now number
    c.self.view_is (subst (λ (f : Frame). Some number ≡ team_number f c.args.team.now) c.frame.ensures c.in_ok-number.ensures.found)
    (rw c.self.invariant.revisions (subst (λ (f : Frame). number < length f.teams + 1) c.frame.ensures c.in_ok-number.ensures.within))
    ∙ names_none (table_cells number i.tables) number c.args.own (sym c.cell_at.ensures ∙ c.in_err-id.was {u = tt}))

pub returns-clause-name : goal.returns-clause-name
returns-clause-name g c =
    let i = c.self.inside in
    let number = c.in_ok-number.number in
    name_reported i.tables.placement.cells number c.args.own c.in_ok-id.id c.in_ok-cell.field-0 (sym c.cell_at.ensures ∙ c.in_ok-id.was {u = tt})
    (ap (option_map (λ (f : CellFacts). f.name.now)) (sym (c.in_ok-cell.was {u = tt}))
    ∙ c.cell.ensures.name ∙ ap (λ (cs : Cells). option_map (λ (d : Cell). d.name) (cell_at cs c.in_ok-id.id)) c.cells.ensures)
    ∙ sym (cells_seen (λ (cells : List Cell). name_at cells c.args.own) i.tables c.args.self.now c.args.team.now number
    c.self.view_is (subst (λ (f : Frame). Some number ≡ team_number f c.args.team.now) c.frame.ensures c.in_ok-number.ensures.found)
    (rw c.self.invariant.revisions (subst (λ (f : Frame). number < length f.teams + 1) c.frame.ensures c.in_ok-number.ensures.within)))

pub returns-clause-printed : goal.returns-clause-printed
returns-clause-printed g c =
    let i = c.self.inside in
    let number = c.in_ok-number.number in
    name_printed (table_cells number i.tables) c.args.own c.in_ok-cell.field-0.name.now
    (each_team (λ t. IsTeamOf (frame_of i.tables) t) i.tables number c.self.invariant.teams
    (rw c.self.invariant.revisions (subst (λ (f : Frame). number < length f.teams + 1) c.frame.ensures c.in_ok-number.ensures.within))).printed
    (name_reported i.tables.placement.cells number c.args.own c.in_ok-id.id c.in_ok-cell.field-0 (sym c.cell_at.ensures ∙ c.in_ok-id.was {u = tt})
    (ap (option_map (λ (f : CellFacts). f.name.now)) (sym (c.in_ok-cell.was {u = tt}))
    ∙ c.cell.ensures.name ∙ ap (λ (cs : Cells). option_map (λ (d : Cell). d.name) (cell_at cs c.in_ok-id.id)) c.cells.ensures))
