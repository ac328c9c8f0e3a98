use Rattle.std.proofs.Common.{ℕ, [], List, Option, get_or, refl, subst}
use Rattle.lf_units.specs.declared.geometry.Rect.{Rect}
use Rattle.lf_occupancy.specs.Views.{FitIn}
use Rattle.lf_occupancy.specs.Strips.{MarksBoxes, Marked, with_boxes}
use Rattle.lf_occupancy.proofs.Views.{boxes_in_place_fit}
use Rattle.lf_occupancy.proofs.occupancy.Occupancy.boxes_fit.Goals as goal

pub returns : goal.returns
returns c =
    let o = c.self.inside in
    subst (λ (m : Marked). (boxes : List (List (Option Rect))) → MarksBoxes m boxes → (team : ℕ) → FitIn (with_boxes m boxes) team (get_or boxes team [])) c.self.view_is
    (λ boxes holds. boxes_in_place_fit (with_boxes record { index = o.index; site = o.site; mark_lists = o.mark_lists.items } boxes) o.mark_lists.items refl holds)
