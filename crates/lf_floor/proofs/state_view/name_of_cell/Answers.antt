use Rattle.std.proofs.Common.{ℕ, List, length, map, ap, sym, ◌∙◌, arith}
use Rattle.std.specs.Prelude.{slice_get}
use Rattle.lf_floorplan.specs.declared.frame.Frame.{Frame}
use Rattle.lf_cells.specs.declared.cell.Cell.{Cell}
use Rattle.lf_cells.specs.Cells.{Cells, cells_of}
use Rattle.lf_floor.proofs.Saving.{cells_named, none_named}
use Rattle.lf_floor.proofs.state_view.name_of_cell.Goals as goal

pub returns-then-team-len : goal.returns-then-team-len
returns-then-team-len c =
    let tables = c.args.tables.now in
    let same = ap (λ (f : Frame). length f.teams) c.frame.ensures in
    sym (ap (λ (xs : List (List ℕ)). slice_get xs c.args.own) (none_named tables c.requires c.args.team (omega (arith, c.if-team-len.true, c.len.ensures, same, c.requires.revisions))))

pub returns : goal.returns
returns c =
    let tables = c.args.tables.now in
    let k = c.args.team in
    let same = ap (λ (f : Frame). length f.teams) c.frame.ensures in
    c.cell_name.ensures
    ∙ ap (λ (cs : Cells). slice_get (map (λ (x : Cell). x.name) (cells_of cs k)) c.args.own) c.cells.ensures
    ∙ sym (ap (λ (xs : List (List ℕ)). slice_get xs c.args.own) (cells_named tables c.requires k (omega (arith, c.if-team-len.false, c.len.ensures, same, c.requires.revisions))))
