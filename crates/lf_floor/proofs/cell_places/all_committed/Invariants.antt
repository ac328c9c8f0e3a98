use Rattle.std.proofs.Common.{◌≡◌, map, take}
use Rattle.lf_floor.specs.Entries.{committed_entry}
use Rattle.lf_floor.proofs.cell_places.all_committed.Given as goal

-- the places so far are those of the ids so far
abbrev pub invariant-loop-id : goal.invariant-loop-id
invariant-loop-id l = l.places.items ≡ map (committed_entry l.cells) (take l.id-index l.ids)
