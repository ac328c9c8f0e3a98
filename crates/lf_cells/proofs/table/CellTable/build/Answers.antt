use Rattle.std.proofs.Common.{◌≡◌, ◌+◌, ◌<◌, ◌≤◌, ℕ, List, length, map, ap₂, ◌∙◌, arith}
use Rattle.std.specs.Prelude.{All}
use Rattle.std.specs.List.{range_with_len}
use Rattle.lf_floorplan.specs.declared.loaded.LoadedCell.{LoadedCell}
use Rattle.lf_floorplan.specs.LoadedCells.{with_names}
use Rattle.lf_floorplan.proofs.NamedCells.{many_seen}
use Rattle.lf_cells.specs.Initial.{own_cells, own_components}
use Rattle.lf_cells.proofs.Opened.{all_plain, opened_cells, opened_components, opened_index}
use Rattle.lf_cells.proofs.table.CellTable.build.Goals as goal

pub of_cells-requires-clause-known : goal.of_cells-requires-clause-known
of_cells-requires-clause-known c =
    let parts = c.into_parts.result in
    let known : All (λ (d : LoadedCell). d.team < c.len-count.result + 1) (with_names parts.names parts.cells.items) =
    rw c.into_parts.ensures.cells (λ k d within. omega (arith, (c.args.loaded.cells_known k d within).team_known, c.len-count.ensures)) in
    all_plain (λ (team : ℕ). team < c.len-count.result + 1) parts.names parts.cells.items c.into_parts.ensures.count known

pub of_cells-requires-clause-few_cells : goal.of_cells-requires-clause-few_cells
of_cells-requires-clause-few_cells c =
    let parts = c.into_parts.result in
    let many : length (with_names parts.names parts.cells.items) ≡ length parts.cells.items = many_seen parts.names parts.cells.items c.into_parts.ensures.count in
    let few : length (with_names parts.names parts.cells.items) ≤ 4000000 = rw c.into_parts.ensures.cells c.args.loaded.few_cells in
    omega (arith, many, few)

pub invariant_of-result : goal.invariant_of-result
invariant_of-result c =
    let parts = c.into_parts.result in
    opened_index parts.names parts.cells.items (c.len-count.result + 1) c.in_ok-parts.parts c.into_parts.ensures.count
    (rw c.into_parts.ensures.cells c.args.loaded.names_differ) (rw c.into_parts.ensures.cells c.args.loaded.components_rise) (c.in_ok-parts.ensures {u = tt})

pub returns-clause-cells : goal.returns-clause-cells
returns-clause-cells c =
    let parts = c.into_parts.result in
    opened_cells parts.names parts.cells.items (c.len-count.result + 1) c.in_ok-parts.parts c.into_parts.ensures.count (c.in_ok-parts.ensures {u = tt})
    ∙ ap₂ (λ (cells : List LoadedCell) (n : ℕ). map (λ number. own_cells number cells) (range_with_len 0 (n + 1))) c.into_parts.ensures.cells c.len-count.ensures

pub returns-clause-components : goal.returns-clause-components
returns-clause-components c =
    let parts = c.into_parts.result in
    opened_components parts.names parts.cells.items (c.len-count.result + 1) c.in_ok-parts.parts c.into_parts.ensures.count (c.in_ok-parts.ensures {u = tt})
    ∙ ap₂ (λ (cells : List LoadedCell) (n : ℕ). map (λ number. own_components number cells) (range_with_len 0 (n + 1))) c.into_parts.ensures.cells c.len-count.ensures
