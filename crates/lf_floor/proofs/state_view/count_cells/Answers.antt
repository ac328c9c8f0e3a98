use Rattle.std.proofs.Common.{ℕ, List, length, ap, sym, ◌∙◌, arith}
use Rattle.std.proofs.lemmas.List.{length-map}
use Rattle.lf_floorplan.specs.declared.frame.Frame.{Frame}
use Rattle.lf_cells.specs.declared.cell.Cell.{Cell}
use Rattle.lf_cells.specs.Cells.{Cells, cells_of}
use Rattle.lf_cells.proofs.TeamIds.{ids_long}
use Rattle.lf_floor_verbs.specs.Tables.{table_cells}
use Rattle.lf_floor.proofs.Saving.{cells_named, none_named}
use Rattle.lf_floor.proofs.state_view.count_cells.Goals as goal

pub returns-then-team-len : goal.returns-then-team-len
returns-then-team-len c =
    let tables = c.args.tables.now in
    let same = ap (λ (f : Frame). length f.teams) c.frame.ensures in
    sym (ap (λ (xs : List (List ℕ)). length xs) (none_named tables c.requires c.args.team (omega (arith, c.if-team-len.true, c.len.ensures, same, c.requires.revisions))))

pub returns : goal.returns
returns c =
    let tables = c.args.tables.now in
    let k = c.args.team in
    let same = ap (λ (f : Frame). length f.teams) c.frame.ensures in
    ids_long k (cells_of c.cells.result.now k) c.cells_of.result.now c.cells_of.ensures
    ∙ ap (λ (cs : Cells). length (cells_of cs k)) c.cells.ensures
    ∙ sym (length-map (table_cells k tables) (λ (x : Cell). x.name))
    ∙ sym (ap (λ (xs : List (List ℕ)). length xs) (cells_named tables c.requires k (omega (arith, c.if-team-len.false, c.len.ensures, same, c.requires.revisions))))
