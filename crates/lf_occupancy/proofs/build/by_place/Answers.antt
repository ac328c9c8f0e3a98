use Rattle.std.proofs.Common.{List, map, subst}
use Rattle.std.specs.Prelude.{IsPermutation}
use Rattle.std.proofs.lemmas.List.Sorted.{IsPermutation-map}
use Rattle.lf_cells.specs.declared.cell.CellId.{CellId}
use Rattle.lf_occupancy.specs.Building.{id_at}
use Rattle.lf_occupancy.proofs.build.by_place.Goals as goal

pub returns : goal.returns
returns c =
    let ids = c.args.ids.now in
    let old = c.in_ok-list.list.items in
    let new = c.sort_by_place.new.list.items in
    subst (λ (is : List CellId). IsPermutation is (map (id_at ids) new)) c.in_ok-list.ensures (IsPermutation-map (id_at ids) old new c.sort_by_place.ensures)
