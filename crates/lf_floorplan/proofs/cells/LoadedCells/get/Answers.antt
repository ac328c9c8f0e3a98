use Rattle.std.proofs.Common.{◌≡◌, List, Option, None, Some, ap, sym, ◌∙◌}
use Rattle.std.specs.Prelude.{slice_get}
use Rattle.lf_floorplan.specs.declared.place.Place.{Place}
use Rattle.lf_floorplan.specs.declared.loaded.LoadedCell.{LoadedCell}
use Rattle.lf_floorplan.specs.declared.cells.UnnamedCell.{UnnamedCell}
use Rattle.lf_floorplan.proofs.NamedCells.{cell_seen, unnamed, no_cell}
use Rattle.lf_floorplan.proofs.cells.LoadedCells.get.Goals as goal

pub returns-in_err-name : goal.returns-in_err-name
returns-in_err-name c =
    let parts = c.self.inside.parts in
    let none : slice_get parts.names c.args.at ≡ None = sym (c.in_err-name.ensures {u = tt}).name in
    rw (c.from_residual.ensures) (sym (unnamed parts.names parts.cells.items c.args.at none) ∙ ap (λ (cells : List LoadedCell). slice_get cells c.args.at) c.self.view_is)

pub returns-in_err-cell : goal.returns-in_err-cell
returns-in_err-cell c =
    let parts = c.self.inside.parts in
    let none : slice_get parts.cells.items c.args.at ≡ None =
    ap (λ (cells : List UnnamedCell). slice_get cells c.args.at) (sym c.as_slice.ensures.value) ∙ sym c.plain_at.ensures ∙ c.in_err-cell.was {u = tt} in
    rw (c.from_residual-in_err-cell.ensures) (sym (no_cell parts.names parts.cells.items c.args.at none) ∙ ap (λ (cells : List LoadedCell). slice_get cells c.args.at) c.self.view_is)

pub returns : goal.returns
returns c =
    let parts = c.self.inside.parts in
    let name : slice_get parts.names c.args.at ≡ Some c.in_ok-name.name.now = sym (c.in_ok-name.ensures {u = tt}).name in
    let cell : slice_get parts.cells.items c.args.at ≡ Some c.in_ok-cell.cell =
    ap (λ (cells : List UnnamedCell). slice_get cells c.args.at) (sym c.as_slice.ensures.value) ∙ sym c.plain_at.ensures ∙ c.in_ok-cell.was {u = tt} in
    ap (λ (p : Option Place). Some (record { name = c.in_ok-name.name.now; team = c.in_ok-cell.cell.team; mac = c.in_ok-cell.cell.mac; place = p; component = c.in_ok-cell.cell.component }))
    c.place.ensures
    ∙ sym (cell_seen parts.names parts.cells.items c.args.at c.in_ok-name.name.now c.in_ok-cell.cell name cell)
    ∙ ap (λ (cells : List LoadedCell). slice_get cells c.args.at) c.self.view_is
