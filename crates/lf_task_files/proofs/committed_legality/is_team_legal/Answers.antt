use Rattle.std.proofs.Common.{◌≡◌, ◌∙◌, ℕ, List, ap, arith, length, map, subst, sym}
use Rattle.std.specs.Prelude.{All}
use Rattle.std.proofs.Math.ListN.{length-map}
use Rattle.lf_floorplan.specs.declared.frame.Frame.{Frame}
use Rattle.lf_cells.specs.Cells.{Cells, cells_of}
use Rattle.lf_rules.specs.declared.report_types.Listed.{Listed}
use Rattle.lf_reports.specs.Reports.{IsListed, with_byte_name}
use Rattle.lf_reports.proofs.CleanLemmas.{each_named}
use Rattle.lf_floor_model.specs.States.{TeamState}
use Rattle.lf_floor_model.specs.Teams.{IsTeamOf}
use Rattle.lf_floor_model.proofs.Parts.{each}
use Rattle.lf_task_files.specs.CommittedLegality.{committed_listed}
use Rattle.lf_task_files.proofs.CommittedVerdicts.{committed_known, checked_as}
use Rattle.lf_task_files.proofs.committed_legality.is_team_legal.Goals as goal

pub are_legal-requires-clause-listed : goal.are_legal-requires-clause-listed
are_legal-requires-clause-listed c =
    let f = c.args.floor.now.frame in
    let number = c.args.number in
    let s = c.requires.0 in
    let team = each (λ (t : TeamState). IsTeamOf f t) c.args.floor.now.teams number s c.teams_match_frame.ensures c.requires.1 in
    let are : map with_byte_name c.deref.result.now ≡ map (committed_listed number) s.cells =
    ap (map with_byte_name) c.deref.ensures.value ∙ c.in_ok-cells.ensures {u = tt} ∙ ap (λ (cs : Cells). map (committed_listed number) (cells_of cs number)) c.cells-2.ensures
    ∙ ap (map (committed_listed number)) (c.placement-placement.ensures.cells number s c.requires.1) in
    subst (λ (h : Frame). All (λ c. IsListed h (with_byte_name c)) c.deref.result.now) (sym (c.indexed_frame.ensures ∙ c.placement-placement.ensures.frame))
    (each_named f c.deref.result.now (subst (All (IsListed f)) (sym are) (committed_known f number s.cells team.sized team.printed)))

pub are_legal-requires-clause-few : goal.are_legal-requires-clause-few
are_legal-requires-clause-few c =
    let f = c.args.floor.now.frame in
    let number = c.args.number in
    let s = c.requires.0 in
    let team = each (λ (t : TeamState). IsTeamOf f t) c.args.floor.now.teams number s c.teams_match_frame.ensures c.requires.1 in
    let are : map with_byte_name c.deref.result.now ≡ map (committed_listed number) s.cells =
    ap (map with_byte_name) c.deref.ensures.value ∙ c.in_ok-cells.ensures {u = tt} ∙ ap (λ (cs : Cells). map (committed_listed number) (cells_of cs number)) c.cells-2.ensures
    ∙ ap (map (committed_listed number)) (c.placement-placement.ensures.cells number s c.requires.1) in
    let long : length c.deref.result.now ≡ length s.cells =
    sym (length-map c.deref.result.now with_byte_name) ∙ ap (λ (cs : List (Listed (List ℕ))). length cs) are ∙ length-map s.cells (committed_listed number) in
    omega (arith, long, team.few_cells)

pub returns : goal.returns
returns c = λ s there.
    let f = c.args.floor.now.frame in
    let number = c.args.number in
    let are : map with_byte_name c.deref.result.now ≡ map (committed_listed number) s.cells =
    ap (map with_byte_name) c.deref.ensures.value ∙ c.in_ok-cells.ensures {u = tt} ∙ ap (λ (cs : Cells). map (committed_listed number) (cells_of cs number)) c.cells-2.ensures
    ∙ ap (map (committed_listed number)) (c.placement-placement.ensures.cells number s there) in
    checked_as f c.indexed_frame.result number s (map with_byte_name c.deref.result.now) c.are_legal.result (c.indexed_frame.ensures ∙ c.placement-placement.ensures.frame) are c.are_legal.ensures
