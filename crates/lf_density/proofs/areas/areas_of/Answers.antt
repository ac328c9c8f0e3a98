use Rattle.std.proofs.Common.{◌≡◌, ◌∙◌, List, take, ap, arith}
use Rattle.std.proofs.lemmas.List.{take_all}
use Rattle.lf_units.specs.declared.geometry.Rect.{Rect}
use Rattle.lf_density.specs.Bins.{bin_area}
use Rattle.lf_density.proofs.Bins.{areas_are}
use Rattle.lf_density.proofs.areas.areas_of.Goals as goal

pub returns-clause-is : goal.returns-clause-is
returns-clause-is c =
    let g = c.args.grid.now in
    let boxes = c.args.boxes.now in
    let all : take c.loop-rect.rect-index boxes ≡ boxes = take_all c.loop-rect.rect-index boxes (omega (arith, c.loop-rect-test.false)) in
    areas_are g boxes c.loop-rect.areas.items (record {
      many = c.loop-rect.invariant.many;
      each = λ column row within below. c.loop-rect.invariant.each column row within below ∙ ap (λ (bs : List Rect). bin_area g bs column row) all;
    })
