use Rattle.std.proofs.Common.{◌≡◌, ◌∙◌, None, false, true, refl, subst, sym}
use Rattle.std.specs.Prelude.{is_none}
use Rattle.lf_cells.specs.Cells.{Cells, cells_of, working_at}
use Rattle.lf_floor_model.specs.Teams.{team_rules}
use Rattle.lf_floor_verbs.proofs.Marking.{is_placed_by}
use Rattle.lf_floor_verbs.proofs.IllegalCells.{broken_is_not, unplaced_is_not}
use Rattle.lf_floor_verbs.proofs.team_legality.is_cell_legal.Goals as goal

pub returns-then-is_unplaced-clause-reported : goal.returns-then-is_unplaced-clause-reported
returns-then-is_unplaced-clause-reported c = λ within is_in_place.
    let l = c.legalizer_exists.ensures in
    let p = c.args.placement.now in
    let id = c.args.id in
    absurd (unplaced_is_not (team_rules l p.frame id.team c.args.padding.sites) (cells_of p.cells id.team) id.own within is_in_place
    (subst (λ (cs : Cells). true ≡ is_none (working_at (cells_of cs id.team) id.own)) c.cells.ensures (c.if-is_unplaced.ensures {u = tt})))

pub returns-in-Some-clause-reported : goal.returns-in-Some-clause-reported
returns-in-Some-clause-reported c = λ within is_in_place.
    let l = c.legalizer_exists.ensures in
    let p = c.args.placement.now in
    let id = c.args.id in
    absurd (broken_is_not (team_rules l p.frame id.team c.args.padding.sites) (cells_of p.cells id.team) id.own c.in-Some.field-0 c.verdict_is_unique.ensures
    (c.cells_are_sized.ensures.sized id.team) is_in_place (sym c.in-Some.is ∙ c.broken_where.ensures l))

pub returns-in-None-clause-legal : goal.returns-in-None-clause-legal
returns-in-None-clause-legal c = λ e.
    let l = c.legalizer_exists.ensures in
    let p = c.args.placement.now in
    let id = c.args.id in
    is_placed_by (team_rules l p.frame id.team c.args.padding.sites) (cells_of p.cells id.team) id.own None (c.cells_are_sized.ensures.sized id.team)
    (subst (λ (cs : Cells). false ≡ is_none (working_at (cells_of cs id.team) id.own)) c.cells.ensures (c.if-is_unplaced.ensures {u = tt}))
    (sym c.in-None.is ∙ c.broken_where.ensures l) refl
