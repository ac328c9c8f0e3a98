use Rattle.std.proofs.Common.{◌∙◌, ap}
use Rattle.lf_floor_model.specs.States.{FloorState}
use Rattle.lefence_rows.proofs.design.replies_by.Goals as goal

pub put_replies-requires : goal.put_replies-requires
put_replies-requires g c =
    record {
      fits = λ s places same are.
          c.loaded_cells_are_exportable.ensures _ c.args.loaded places c.requires.loads.2
          (c.places_follow_design.ensures c.args.loaded s places
          (same ∙ ap (λ (f : FloorState). f.components) ((c.in_ok-floor.ensures {u = tt}).opens)) are);
    }
