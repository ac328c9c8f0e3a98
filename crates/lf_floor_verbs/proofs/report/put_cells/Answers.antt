use Rattle.std.proofs.Common.{◌≡◌, ◌∙◌, ◌++◌, ℕ, [], false, length, List, Option, ap, refl, subst, sym, arith, get_or}
use Rattle.std.specs.Prelude.{All, filter_map, option_and_then}
use Rattle.std.specs.List.{cons_option, range_with_len}
use Rattle.std.proofs.lemmas.List.{append-nil, get_or_default}
use Rattle.lf_floorplan.specs.Bounds.{IsDesignName}
use Rattle.lf_rules.specs.declared.report_types.Violation.{Violation}
use Rattle.lf_rules.specs.declared.rule.Broken.{Broken}
use Rattle.lf_cells.specs.declared.cell.CellId.{CellId}
use Rattle.lf_cells.specs.Cells.{Cells, cells_of, id_of, ids_of}
use Rattle.lf_cells.proofs.TeamIds.{ids_long, ids_read}
use Rattle.lf_proto.specs.ReportText.{violation_in, violations_text}
use Rattle.lf_floor_model.specs.Teams.{team_rules}
use Rattle.lf_floor_verbs.specs.Marking.{AreMarked}
use Rattle.lf_floor_model.specs.Changes.{broken_where}
use Rattle.lf_floor_verbs.specs.Reporting.{names_of, violation_where}
use Rattle.lf_floor_verbs.proofs.Reporting.{names_printed, one_more_violation, violations_listed}
use Rattle.lf_floor_verbs.proofs.report.put_cells.Goals as goal

abbrev no_id : CellId
no_id = record { team = 0; own = 0 }

pub broken_unmarked-verdict-requires : goal.broken_unmarked-verdict-requires
broken_unmarked-verdict-requires c =
    let p = c.args.placement.now in
    let number = c.args.number in
    let k = c.loop-id.id-index in
    let ids = c.cells_of-id-items.result.now in
    let are : ids ≡ ids_of number (cells_of p.cells number) =
    c.cells_of-id-items.ensures ∙ ap (λ (cs : Cells). ids_of number (cells_of cs number)) c.cells-2.ensures in
    let id : get_or ids k no_id ≡ id_of number k =
    ids_read number k (cells_of p.cells number) ids (get_or ids k no_id) are c.loop-id-test.true (get_or_default ids k no_id (get_or ids k no_id) c.loop-id-test.true) in
    subst (λ (i : CellId). AreMarked p.frame i.team c.args.padding.sites (cells_of p.cells i.team) c.args.marks.now) (sym id) c.requires.marked

pub put_verdict-requires : goal.put_verdict-requires
put_verdict-requires c =
    names_printed (cells_of c.cells.result.now c.args.number)
    (subst (λ (cs : Cells). All (λ c. IsDesignName c.name) (cells_of cs c.args.number)) (sym c.cells.ensures) c.requires.printed)

pub loop-id-init : goal.loop-id-init
loop-id-init c = λ lz rest. refl

pub loop-id-preserved : goal.loop-id-preserved
loop-id-preserved c = λ lz rest.
    let p = c.args.placement.now in
    let number = c.args.number in
    let k = c.loop-id.id-index in
    let ids = c.cells_of-id-items.result.now in
    let are : ids ≡ ids_of number (cells_of p.cells number) =
    c.cells_of-id-items.ensures ∙ ap (λ (cs : Cells). ids_of number (cells_of cs number)) c.cells-2.ensures in
    let id : get_or ids k no_id ≡ id_of number k =
    ids_read number k (cells_of p.cells number) ids (get_or ids k no_id) are c.loop-id-test.true (get_or_default ids k no_id (get_or ids k no_id) c.loop-id-test.true) in
    let g : ℕ → Option Violation = violation_where (team_rules lz p.frame number c.args.padding.sites) (cells_of p.cells number) in
    let reported : List (List ℕ) → Option Broken → ℕ → List ℕ = λ names verdict own.
    c.loop-id.text.items ++ violations_text c.loop-id.later (cons_option (option_and_then (violation_in names own) verdict) rest) in
    let own = (get_or ids k no_id).own in
    c.in_ok-later.ensures {u = tt} rest
    ∙ ap (λ (cs : Cells). reported (names_of (cells_of cs number)) c.broken_unmarked-verdict.result own) c.cells.ensures
    ∙ ap (λ (verdict : Option Broken). reported (names_of (cells_of p.cells number)) verdict own) (c.broken_unmarked-verdict.ensures lz)
    ∙ ap (λ (i : CellId). reported (names_of (cells_of p.cells number)) (broken_where (team_rules lz p.frame i.team c.args.padding.sites) (cells_of p.cells i.team) i.own) i.own) id
    ∙ c.loop-id.invariant lz (cons_option (g k) rest)
    ∙ ap (λ (vs : List Violation). c.args.text.now.items ++ violations_text false vs) (one_more_violation g k rest)

pub returns : goal.returns
returns c = λ lz.
    let p = c.args.placement.now in
    let number = c.args.number in
    let cells = cells_of p.cells number in
    let ids = c.cells_of-id-items.result.now in
    let are : ids ≡ ids_of number cells = c.cells_of-id-items.ensures ∙ ap (λ (cs : Cells). ids_of number (cells_of cs number)) c.cells-2.ensures in
    let t = team_rules lz p.frame number c.args.padding.sites in
    let g : ℕ → Option Violation = violation_where t cells in
    let all : c.loop-id.id-index ≡ length cells = omega (arith, c.loop-id-test.false, c.loop-id.auto.id-index-end, ids_long number cells ids are) in
    c.loop-id.invariant lz []
    ∙ ap (λ (vs : List Violation). c.args.text.now.items ++ violations_text false vs)
    (append-nil (filter_map g (range_with_len 0 c.loop-id.id-index)) ∙ ap (λ (n : ℕ). filter_map g (range_with_len 0 n)) all ∙ violations_listed t cells)
