use Rattle.std.proofs.Common.{length, ap, sym, ◌∙◌, arith}
use Rattle.std.proofs.lemmas.List.{length-map}
use Rattle.lf_cells.specs.Cells.{Cells, cells_of}
use Rattle.lf_cells.proofs.TeamIds.{ids_long}
use Rattle.lf_state_text.specs.Saved.{SavedTeam}
use Rattle.lf_floor.specs.Saved.{saved_cell}
use Rattle.lf_floor_verbs.specs.Tables.{table_cells}
use Rattle.lf_floor.proofs.Saving.{none_reported, reported_at}
use Rattle.lf_floor.proofs.state_view.reported_cells.Goals as goal

pub returns-then-team-len : goal.returns-then-team-len
returns-then-team-len c = sym (ap (λ (t : SavedTeam). length t.cells) (none_reported c.args.tables.now c.args.team (omega (arith, c.if-team-len.true, c.len.ensures, c.args.tables.now.revisions.ok.0))))

pub returns : goal.returns
returns c =
    let tables = c.args.tables.now in
    let k = c.args.team in
    ids_long k (cells_of c.cells.result.now k) c.cells_of.result.now c.cells_of.ensures
    ∙ ap (λ (cs : Cells). length (cells_of cs k)) c.cells.ensures
    ∙ sym (length-map (table_cells k tables) saved_cell)
    ∙ sym (ap (λ (t : SavedTeam). length t.cells) (reported_at tables k (omega (arith, c.if-team-len.false, c.len.ensures, c.args.tables.now.revisions.ok.0))))
