use Rattle.std.proofs.Common.{◌∷◌, ◌++◌, [], List, ap, ap₂, ◌∙◌}
use Rattle.lf_floorplan.specs.declared.loaded.LoadedCell.{LoadedCell}
use Rattle.lf_floorplan.specs.LoadedCells.{with_name, with_names}
use Rattle.lf_floorplan.proofs.NamedCells.{apart_seen, one_appended}
use Rattle.lf_floorplan.proofs.cells.LoadedCells.push.Goals as goal

pub push_cell-requires : goal.push_cell-requires
push_cell-requires c =
    let parts = c.self.inside.parts in
    apart_seen parts.names parts.cells.items c.args.name.now c.self.invariant (rw c.self.view_is c.requires)

pub returns-clause-ok : goal.returns-clause-ok
returns-clause-ok c =
    let parts = c.self.inside.parts in
    ap₂ with_names ((c.in_ok-push_cell.ensures {u = tt}).names) ((c.in_ok-push_cell.ensures {u = tt}).cells)
    ∙ one_appended parts.names parts.cells.items c.args.name.now c.args.cell c.self.invariant
    ∙ ap (λ (cells : List LoadedCell). cells ++ with_name c.args.name.now c.args.cell ∷ []) c.self.view_is
