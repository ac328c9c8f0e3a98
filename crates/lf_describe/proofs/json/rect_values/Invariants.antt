use Rattle.std.proofs.Common.{◌≡◌, map, take}
use Rattle.serde_json.specs.View.{view}
use Rattle.lf_describe.specs.Description.{rect_data}
use Rattle.lf_describe.proofs.json.rect_values.Given as goal

-- The values so far are those of the rectangles so far.
abbrev pub invariant-loop-rect : goal.invariant-loop-rect
invariant-loop-rect l = map view l.values.items ≡ map rect_data (take l.rect-index l.rects)
