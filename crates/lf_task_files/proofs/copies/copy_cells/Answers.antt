use Rattle.std.proofs.Common.{◌≡◌, ◌≢◌, ◌∙◌, ◌+◌, ◌≤◌, ℕ, List, ◌∷◌, ◌++◌, length, map, drop, Some, ap, sym, subst, arith, append-nil}
use Rattle.std.specs.Prelude.{AllPairs, option_map, slice_get}
use Rattle.std.specs.Borrow.{Bor}
use Rattle.lf_floorplan.specs.declared.loaded.LoadedCell.{LoadedCell}
use Rattle.lf_floorplan.specs.LoadedCells.{with_name}
use Rattle.lf_floorplan.proofs.NamedCells.{cell_seen, many_seen}
use Rattle.lf_reports.proofs.ListedCells.{one_more}
use Rattle.lf_task_files.specs.Copies.{cells_of_parts, placed_by_table}
use Rattle.lf_repair_bounds.proofs.Copying.{apart_before, from_here, is_read, named_apart, none_left, there}
use Rattle.lf_task_files.proofs.Copying.{moved_one}
use Rattle.lf_task_files.proofs.copies.copy_cells.Goals as goal

pub unwrap-name-requires : goal.unwrap-name-requires
unwrap-name-requires c =
    there (λ (n : Bor (List ℕ)). n.now) c.args.parts.now.names c.loop-at.at c.name_at.result c.name_at.ensures.name
    (omega (arith, c.loop-at-test.true, c.len-at-end.ensures, c.requires.whole))

pub unwrap-cell-requires : goal.unwrap-cell-requires
unwrap-cell-requires c =
    is_read c.args.parts.now.cells.items c.loop-at.at c.plain_at.result c.plain_at.ensures (omega (arith, c.loop-at-test.true, c.len-at-end.ensures))

pub push-requires : goal.push-requires
push-requires c =
    let parts = c.args.parts.now in
    let f = placed_by_table c.args.committed c.args.table in
    let all = cells_of_parts parts in
    let at = c.loop-at.at in
    let name = c.unwrap-name.result.now in
    let cell = c.unwrap-cell.result in
    let x = with_name name c.moved_by.result in
    let is_name : slice_get parts.names at ≡ Some name = sym c.name_at.ensures.name ∙ ap (option_map (λ (n : Bor (List ℕ)). n.now)) c.unwrap-name.ensures in
    let is_cell : slice_get parts.cells.items at ≡ Some cell = sym c.plain_at.ensures ∙ c.unwrap-cell.ensures in
    let ahead = from_here all at (with_name name cell) (cell_seen parts.names parts.cells.items at name cell is_name is_cell) in
    let here : map f (drop at all) ≡ x ∷ map f (drop (at + 1) all) =
    ap (map f) ahead ∙ ap (λ (d : LoadedCell). d ∷ map f (drop (at + 1) all)) (sym c.moved_by.ensures) in
    let whole : c.loop-at.copies ++ x ∷ map f (drop (at + 1) all) ≡ map f all =
    ap (λ (ds : List LoadedCell). c.loop-at.copies ++ ds) (sym here) ∙ c.loop-at.invariant in
    apart_before (λ a b. a.name ≢ b.name) c.loop-at.copies x (map f (drop (at + 1) all))
    (subst (AllPairs (λ (a : LoadedCell) (b : LoadedCell). a.name ≢ b.name)) (sym whole) (named_apart f (moved_one c.args.committed c.args.table) all c.requires.named))

pub loop-at-preserved : goal.loop-at-preserved
loop-at-preserved c =
    let parts = c.args.parts.now in
    let f = placed_by_table c.args.committed c.args.table in
    let all = cells_of_parts parts in
    let at = c.loop-at.at in
    let name = c.unwrap-name.result.now in
    let cell = c.unwrap-cell.result in
    let x = with_name name c.moved_by.result in
    let is_name : slice_get parts.names at ≡ Some name = sym c.name_at.ensures.name ∙ ap (option_map (λ (n : Bor (List ℕ)). n.now)) c.unwrap-name.ensures in
    let is_cell : slice_get parts.cells.items at ≡ Some cell = sym c.plain_at.ensures ∙ c.unwrap-cell.ensures in
    let ahead = from_here all at (with_name name cell) (cell_seen parts.names parts.cells.items at name cell is_name is_cell) in
    let here : map f (drop at all) ≡ x ∷ map f (drop (at + 1) all) =
    ap (map f) ahead ∙ ap (λ (d : LoadedCell). d ∷ map f (drop (at + 1) all)) (sym c.moved_by.ensures) in
    rw (c.in_ok-push.ensures {u = tt}).ok (one_more c.loop-at.copies x (map f (drop (at + 1) all)) (map f all) (map f (drop at all)) here c.loop-at.invariant)

pub returns : goal.returns
returns c =
    let parts = c.args.parts.now in
    let f = placed_by_table c.args.committed c.args.table in
    let all = cells_of_parts parts in
    let many = many_seen parts.names parts.cells.items c.requires.whole in
    let past : length all ≤ c.loop-at.at = omega (arith, many, c.len-at-end.ensures) in
    sym (append-nil c.loop-at.copies) ∙ ap (λ (ds : List LoadedCell). c.loop-at.copies ++ map f ds) (sym (none_left all c.loop-at.at past)) ∙ c.loop-at.invariant
