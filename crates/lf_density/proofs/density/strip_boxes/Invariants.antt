use Rattle.std.proofs.Common.{◌≡◌, map, take}
use Rattle.lf_density.proofs.density.strip_boxes.Given as goal

abbrev pub invariant-loop-strip : goal.invariant-loop-strip
invariant-loop-strip l = l.boxes.items ≡ map (λ g. g.area) (take l.strip-index l.strips)
