use Rattle.std.proofs.Common.{ℕ, List, Option, subst, sym}
use Rattle.lf_floorplan.specs.declared.place.Place.{Place}
use Rattle.lf_write.specs.Export.{AreExportable}
use Rattle.lefence_rows.proofs.design.exported.Goals as goal

pub export-requires : goal.export-requires
export-requires g c =
    record {
      places = subst (λ (places : List (ℕ × Option Place)). AreExportable c.args.document.now.components places) (sym c.deref.ensures.value)
          (c.requires.fits c.in_ok-places.places.items (c.in_ok-places.ensures {u = tt}));
    }
