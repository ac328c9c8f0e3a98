use Rattle.std.proofs.Common.{◌≡◌, ◌∙◌, ◌<◌, true, false, Some, length, map, get_or, subst, sym}
use Rattle.std.specs.Prelude.{slice_get}
use Rattle.lf_rules.specs.Team.{IsLegalCell}
use Rattle.lf_cells.specs.declared.cell.CellId.{CellId}
use Rattle.lf_cells.specs.Cells.{cells_of}
use Rattle.lf_legalize.specs.Members.{member_of}
use Rattle.lf_floor_model.specs.States.{TeamState}
use Rattle.lf_floor_model.specs.Teams.{team_number}
use Rattle.lf_repair_team.proofs.Finding.{all_are_placed, not_whole, one_more_is_placed}
use Rattle.lf_repair_strategy.proofs.Ids.{id_at, ids_are, no_id}
use Rattle.lf_repair_team.proofs.Ids.{all_looked, looked_within}
use Rattle.lf_repair_team.proofs.repair_input.is_team_legal.Goals as goal

false_true : false ≡ true → ⊥
false_true e = cc

pub returns-then-not-is_cell_legal-clause-reported : goal.returns-then-not-is_cell_legal-clause-reported
returns-then-not-is_cell_legal-clause-reported g c = λ s there whole.
    let floor = c.args.floor.now in
    let team = c.args.team.now in
    let number = c.in-Some.number in
    let named : team_number floor.frame team ≡ Some number = sym c.team_number.ensures ∙ c.in-Some.is in
    let k = c.loop-id.id-index in
    let cells = cells_of c.placement.result.now.cells number in
    let ids = c.cells_of-id-items.result.now in
    let are = ids_are c.placement.result.now.cells c.cells.result.now number ids c.cells.ensures c.cells_of-id-items.ensures in
    let Reported = c.is_cell_legal.result ≡ true in
    absurd (not_whole team floor number k Reported named
    (subst (λ (i : CellId). (s : TeamState) → slice_get floor.teams number ≡ Some s → i.own < length s.cells
    → IsLegalCell floor.frame number s.padding (map member_of s.cells) i.own → Reported) (id_at number k cells ids are c.loop-id-test.true) c.is_cell_legal.ensures.reported)
    (λ reported. false_true (sym c.if-not-is_cell_legal.true ∙ reported)) s there
    (looked_within team floor number k cells ids are c.loop-id-test.true named (λ s at. c.placement.ensures.cells number s at) s there) whole)

pub loop-id-preserved : goal.loop-id-preserved
loop-id-preserved g c =
    let floor = c.args.floor.now in
    let team = c.args.team.now in
    let number = c.in-Some.number in
    let named : team_number floor.frame team ≡ Some number = sym c.team_number.ensures ∙ c.in-Some.is in
    let k = c.loop-id.id-index in
    let cells = cells_of c.placement.result.now.cells number in
    let ids = c.cells_of-id-items.result.now in
    let are = ids_are c.placement.result.now.cells c.cells.result.now number ids c.cells.ensures c.cells_of-id-items.ensures in
    one_more_is_placed team floor number k (get_or ids k no_id) (id_at number k cells ids are c.loop-id-test.true) named
    (λ s at. c.is_cell_legal.ensures.legal s at c.if-not-is_cell_legal.false) c.loop-id.invariant

pub returns-clause-whole : goal.returns-clause-whole
returns-clause-whole g c = λ e.
    let floor = c.args.floor.now in
    let team = c.args.team.now in
    let number = c.in-Some.number in
    let named : team_number floor.frame team ≡ Some number = sym c.team_number.ensures ∙ c.in-Some.is in
    let k = c.loop-id.id-index in
    let cells = cells_of c.placement.result.now.cells number in
    let ids = c.cells_of-id-items.result.now in
    let are = ids_are c.placement.result.now.cells c.cells.result.now number ids c.cells.ensures c.cells_of-id-items.ensures in
    all_are_placed team floor number k named (all_looked floor number k cells ids are c.loop-id-test.false (λ s at. c.placement.ensures.cells number s at)) c.loop-id.invariant
