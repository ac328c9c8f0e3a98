use Rattle.std.proofs.Common.{◌≡◌, ◌∙◌, ◌<◌, length, None, Option, Some, ap, subst, sym, arith, get_or}
use Rattle.std.proofs.lemmas.List.{get_or_default}
use Rattle.lf_reports.specs.declared.broken_cell.BrokenCell.{BrokenCell}
use Rattle.lf_cells.specs.declared.cell.CellId.{CellId}
use Rattle.lf_cells.specs.Cells.{Cells, cells_of, id_of, ids_of}
use Rattle.lf_cells.proofs.TeamIds.{ids_long, ids_read}
use Rattle.lf_floor_model.specs.Teams.{team_rules}
use Rattle.lf_floor_model.specs.Changes.{broken_where}
use Rattle.lf_floor_verbs.specs.Marking.{AreMarked}
use Rattle.lf_floor_verbs.proofs.FirstIllegal.{first_found, none_found, one_more_unbroken}
use Rattle.lf_floor_verbs.proofs.team_legality.first_broken.Goals as goal

abbrev no_id : CellId
no_id = record { team = 0; own = 0 }

pub broken_unmarked-requires : goal.broken_unmarked-requires
broken_unmarked-requires c =
    let p = c.args.placement.now in
    let number = c.args.number in
    let k = c.loop-id.id-index in
    let ids = c.cells_of-id-items.result.now in
    let are : ids ≡ ids_of number (cells_of p.cells number) =
    c.cells_of-id-items.ensures ∙ ap (λ (cs : Cells). ids_of number (cells_of cs number)) c.cells.ensures in
    let id : get_or ids k no_id ≡ id_of number k =
    ids_read number k (cells_of p.cells number) ids (get_or ids k no_id) are c.loop-id-test.true (get_or_default ids k no_id (get_or ids k no_id) c.loop-id-test.true) in
    subst (λ (i : CellId). AreMarked p.frame i.team c.args.padding.sites (cells_of p.cells i.team) c.args.marks.now) (sym id) c.requires

pub loop-id-init : goal.loop-id-init
loop-id-init c = λ lz i less. absurd (omega (arith, less))

pub loop-id-preserved : goal.loop-id-preserved
loop-id-preserved c = λ lz.
    let p = c.args.placement.now in
    let number = c.args.number in
    let k = c.loop-id.id-index in
    let ids = c.cells_of-id-items.result.now in
    let are : ids ≡ ids_of number (cells_of p.cells number) =
    c.cells_of-id-items.ensures ∙ ap (λ (cs : Cells). ids_of number (cells_of cs number)) c.cells.ensures in
    let id : get_or ids k no_id ≡ id_of number k =
    ids_read number k (cells_of p.cells number) ids (get_or ids k no_id) are c.loop-id-test.true (get_or_default ids k no_id (get_or ids k no_id) c.loop-id-test.true) in
    one_more_unbroken (team_rules lz p.frame number c.args.padding.sites) (cells_of p.cells number) k (c.loop-id.invariant lz)
    (subst (λ (i : CellId). None ≡ broken_where (team_rules lz p.frame i.team c.args.padding.sites) (cells_of p.cells i.team) i.own) id
    (sym c.in_default.is ∙ c.broken_unmarked.ensures lz))

pub returns-in-Some : goal.returns-in-Some
returns-in-Some c = λ lz.
    let p = c.args.placement.now in
    let number = c.args.number in
    let k = c.loop-id.id-index in
    let ids = c.cells_of-id-items.result.now in
    let are : ids ≡ ids_of number (cells_of p.cells number) =
    c.cells_of-id-items.ensures ∙ ap (λ (cs : Cells). ids_of number (cells_of cs number)) c.cells.ensures in
    let id : get_or ids k no_id ≡ id_of number k =
    ids_read number k (cells_of p.cells number) ids (get_or ids k no_id) are c.loop-id-test.true (get_or_default ids k no_id (get_or ids k no_id) c.loop-id-test.true) in
    let within : k < length (cells_of p.cells number) = omega (arith, c.loop-id-test.true, ids_long number (cells_of p.cells number) ids are) in
    ap {B = Option BrokenCell} (λ (i : CellId). Some (record { own = i.own; broken = c.in-Some.broken })) id
    ∙ first_found (team_rules lz p.frame number c.args.padding.sites) (cells_of p.cells number) k c.in-Some.broken (c.loop-id.invariant lz) within
    (subst (λ (i : CellId). Some c.in-Some.broken ≡ broken_where (team_rules lz p.frame i.team c.args.padding.sites) (cells_of p.cells i.team) i.own) id
    (sym c.in-Some.is ∙ c.broken_unmarked.ensures lz))

pub returns : goal.returns
returns c = λ lz.
    let p = c.args.placement.now in
    let number = c.args.number in
    let ids = c.cells_of-id-items.result.now in
    let are : ids ≡ ids_of number (cells_of p.cells number) =
    c.cells_of-id-items.ensures ∙ ap (λ (cs : Cells). ids_of number (cells_of cs number)) c.cells.ensures in
    let many = ids_long number (cells_of p.cells number) ids are in
    none_found (team_rules lz p.frame number c.args.padding.sites) (cells_of p.cells number)
    (λ i less. c.loop-id.invariant lz i (omega (arith, less, many, c.loop-id-test.false)))
