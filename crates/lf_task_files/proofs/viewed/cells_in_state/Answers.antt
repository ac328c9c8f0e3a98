use Rattle.std.proofs.Common.{◌∙◌, ◌+◌, List, length, map, ap, inl, refl, sym}
use Rattle.std.proofs.lemmas.Result.{err_from_is_err_and}
use Rattle.lf_floorplan.specs.declared.loaded.LoadedCell.{LoadedCell}
use Rattle.lf_floorplan.specs.declared.parts.Team.{Team}
use Rattle.lf_cells.specs.Cells.{Cells, cells_of}
use Rattle.lf_task_files.specs.PlacedDesigns.{placed_on_floor}
use Rattle.lf_task_files.specs.Copies.{IsCopyWithCells, cells_of_parts}
use Rattle.lf_task_files.proofs.Looking.{floor_fails, places_alike, state_alike}
use Rattle.lf_task_files.proofs.viewed.cells_in_state.Goals as goal

pub copy_cells-requires : goal.copy_cells-requires
copy_cells-requires g c = record { whole = c.requires.whole; named = c.requires.design.names_differ }

pub returns-clause-ok : goal.returns-clause-ok
returns-clause-ok g c = λ design frame cells.
    let twin : IsCopyWithCells design.frame design.cells c.in_ok-twin.twin = rw (frame, cells) c.in_ok-twin.ensures in
    let state = state_alike (g.T.InputFiles.gives c.args.texts.now) c.args.path.now design c.in_ok-twin.twin c.in_ok-floor.floor twin c.in_ok-floor.ensures.ok in
    let is_in_place = places_alike c.args.committed c.args.frame.now c.cells.result c.in_ok-floor.floor state.0 (cells_of_parts c.args.parts.now)
    (λ number s is. ap (λ (t : Cells). cells_of t number) c.cells.ensures ∙ c.placement.ensures.cells number s is)
    (c.in_ok-floor.ensures.many ∙ ap (λ (ts : List Team). length ts + 1) c.in_ok-twin.ensures.frame.teams) state.2
    c.requires.design.cells_known in
    (state.0, state.1, c.in_ok-cells.ensures ∙ is_in_place ∙ ap (λ (cs : List LoadedCell). map (placed_on_floor c.args.committed state.0) cs) (sym cells))

pub returns-in_err-floor-clause-err : goal.returns-in_err-floor-clause-err
returns-in_err-floor-clause-err g c = λ design frame cells.
    let twin : IsCopyWithCells design.frame design.cells c.in_ok-twin.twin = rw (frame, cells) c.in_ok-twin.ensures in
    let p = err_from_is_err_and c.from_residual-in_err-floor.result c.from_residual-in_err-floor.ensures.1 in
    rw (p.1, p.2) (floor_fails (g.T.InputFiles.gives c.args.texts.now) c.args.path.now design c.in_ok-twin.twin _ twin c.in_err-floor.ensures.err)

pub returns-in_err-cells-clause-err : goal.returns-in_err-cells-clause-err
returns-in_err-cells-clause-err g c = λ design frame cells.
    let p = err_from_is_err_and c.from_residual-in_err-cells.result c.from_residual-in_err-cells.ensures.1 in
    rw (p.1, p.2) (inl refl)
