use Rattle.std.proofs.Common.{◌∷◌, [], ◌+◌, ℕ, List, drop, map, ap, arith}
use Rattle.std.specs.Borrow.{Bor}
use Rattle.std.proofs.lemmas.List.{map-append}
use Rattle.lf_floorplan.specs.declared.loaded.LoadedCell.{LoadedCell}
use Rattle.lf_rules.specs.declared.report_types.Listed.{Listed}
use Rattle.lf_reports.specs.Reports.{with_byte_name, listed_at}
use Rattle.lf_reports.proofs.ListedCells.{is_there, cells_from, one_more}
use Rattle.lf_describe.specs.Description.{places_in_text}
use Rattle.lf_describe.proofs.counts.listed.Goals as goal

pub unwrap-cell-requires : goal.unwrap-cell-requires
unwrap-cell-requires c = is_there c.args.cells.now c.loop-at.at c.get.result c.get.ensures (omega (arith, c.loop-at-test.true, c.len-at-end.ensures))

pub loop-at-preserved : goal.loop-at-preserved
loop-at-preserved c =
    let cells = c.args.cells.now in
    let v = c.unwrap-cell.result in
    let x : Listed (Bor (List ℕ)) = record { name = v.name; team = v.team; mac = v.mac; place = v.place } in
    let here = cells_from cells c.loop-at.at c.get.result v c.get.ensures c.unwrap-cell.ensures in
    let rest = drop (c.loop-at.at + 1) cells in
    rw ((c.in_ok-push.ensures {u = tt}).items, map-append with_byte_name c.loop-at.listed.items (x ∷ []))
    (one_more (map with_byte_name c.loop-at.listed.items) (with_byte_name x) (listed_at rest (places_in_text rest)) (listed_at cells (places_in_text cells))
    (listed_at (drop c.loop-at.at cells) (places_in_text (drop c.loop-at.at cells))) (ap (λ (cs : List LoadedCell). listed_at cs (places_in_text cs)) here)
    c.loop-at.invariant)
