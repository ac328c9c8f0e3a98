use Rattle.std.proofs.Common.{map, ap, sym, ◌∙◌, arith}
use Rattle.std.specs.Prelude.{slice_get}
use Rattle.lf_cells.specs.Cells.{Cells, cells_of}
use Rattle.lf_state_text.specs.Saved.{SavedTeam}
use Rattle.lf_floor.specs.Saved.{saved_cell}
use Rattle.lf_floor.proofs.Saving.{none_reported, reported_at}
use Rattle.lf_floor.proofs.state_view.reported_cell.Goals as goal

pub returns-then-team-len : goal.returns-then-team-len
returns-then-team-len c = sym (ap (λ (t : SavedTeam). slice_get t.cells c.args.own) (none_reported c.args.tables.now c.args.team (omega (arith, c.if-team-len.true, c.len.ensures, c.args.tables.now.revisions.ok.0))))

pub returns : goal.returns
returns c =
    let tables = c.args.tables.now in
    let k = c.args.team in
    c.saved_cell.ensures
    ∙ ap (λ (cs : Cells). slice_get (map saved_cell (cells_of cs k)) c.args.own) c.cells.ensures
    ∙ sym (ap (λ (t : SavedTeam). slice_get t.cells c.args.own) (reported_at tables k (omega (arith, c.if-team-len.false, c.len.ensures, c.args.tables.now.revisions.ok.0))))
