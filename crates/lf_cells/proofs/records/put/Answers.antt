use Rattle.std.proofs.Common.{Option, ap, ◌∙◌, arith}
use Rattle.lf_floorplan.specs.declared.place.Place.{Place}
use Rattle.lf_cells.specs.Records.{moved_records}
use Rattle.lf_cells.proofs.Changes.{moved_is, moved_past}
use Rattle.lf_cells.proofs.records.put.Goals as goal

pub returns-then-own-len : goal.returns-then-own-len
returns-then-own-len c =
    moved_is c.args.slots.now.items c.args.own c.index_mut.result.now c.of.result c.index_mut.ensures.value
    ∙ ap (λ (place : Option Place). moved_records c.args.slots.now.items c.args.own place) c.of.ensures

pub returns-else-own-len : goal.returns-else-own-len
returns-else-own-len c = moved_past c.args.slots.now.items c.args.own c.args.place (omega arith)
