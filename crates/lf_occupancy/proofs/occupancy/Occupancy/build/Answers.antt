use Rattle.std.proofs.Common.{◌≡◌, ℤ, of_z, rules, subst, sym, to_z, w64}
use Rattle.lf_occupancy.specs.Floorplans.{boxes_in}
use Rattle.lf_occupancy.specs.Strips.{ShowAllBoxes, widened_strips}
use Rattle.lf_occupancy.proofs.occupancy.Occupancy.build.Goals as goal

pub returns : goal.returns
returns c =
    let is : to_z w64 (of_z w64 c.args.frame.now.pitch.x) ≡ c.args.frame.now.pitch.x = search rules in
    record {
      index = c.requires.index;
      site = is;
      holds = subst (λ (s : ℤ). ShowAllBoxes (widened_strips s c.args.index.strips) (boxes_in c.args.frame.now c.args.cells.now) c.in_ok-mark_lists.mark_lists.items)
          (sym is) c.in_ok-mark_lists.ensures;
    }
