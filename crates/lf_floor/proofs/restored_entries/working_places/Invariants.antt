use Rattle.std.proofs.Common.{◌≡◌, map, take}
use Rattle.lf_cells.specs.Cells.{cells_of, working_at}
use Rattle.lf_floor.proofs.restored_entries.working_places.Given as goal

-- the places so far are those of the ids so far
abbrev pub invariant-loop-id : goal.invariant-loop-id
invariant-loop-id l = l.places.items ≡ map (λ id. working_at (cells_of l.cells id.team) id.own) (take l.id-index l.ids)
