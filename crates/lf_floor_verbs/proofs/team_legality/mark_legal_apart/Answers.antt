use Rattle.std.proofs.Common.{◌∙◌, map, subst, sym}
use Rattle.lf_rules.specs.Team.{IsLegalCell}
use Rattle.lf_cells.specs.declared.cell.CellId.{CellId}
use Rattle.lf_cells.specs.Cells.{cells_of}
use Rattle.lf_legalize.specs.Members.{member_of}
use Rattle.lf_placement.specs.Placements.{OverlapsNoCell}
use Rattle.lf_floor_verbs.specs.Tables.{table_cells, frame_of}
use Rattle.lf_floor_verbs.proofs.Marking.{id_is, one_more_mark}
use Rattle.lf_floor_verbs.proofs.team_legality.mark_legal_apart.Goals as goal

pub is_legal_apart-requires : goal.is_legal_apart-requires
is_legal_apart-requires g c =
    let number = c.args.context.now.number in
    let tables = c.args.tables.now in
    let cells = table_cells number tables in
    subst (λ (i : CellId). OverlapsNoCell tables.placement c.args.context.now.padding.sites i)
    (sym (id_is cells number c.args.own c.in-Some.id (sym c.in-Some.is ∙ c.cell_at.ensures))) c.requires

pub returns : goal.returns
returns g c = λ are.
    let number = c.args.context.now.number in
    let sites = c.args.context.now.padding.sites in
    let tables = c.args.tables.now in
    let cells = table_cells number tables in
    one_more_mark (frame_of tables) number sites c.args.own cells c.args.marks.now.items c.mark.new.marks.items c.mark.ensures
    (subst (λ (i : CellId). IsLegalCell (frame_of tables) i.team sites (map member_of (cells_of tables.placement.cells i.team)) i.own)
    (id_is cells number c.args.own c.in-Some.id (sym c.in-Some.is ∙ c.cell_at.ensures)) (c.is_legal_apart.ensures c.if-not-is_legal_apart.false))
    are
