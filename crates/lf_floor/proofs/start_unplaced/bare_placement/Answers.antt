use Rattle.lf_floor.proofs.Unplacing.{few_bare, same_loaded, sized_bare}
use Rattle.lf_floor.proofs.start_unplaced.bare_placement.Goals as goal

pub of-requires : goal.of-requires
of-requires c =
    let built = c.in_ok-frame.ensures in
    let same = same_loaded c.args.loaded c.in_ok-frame.cells c.without_places-bare.result built.cells built.components c.without_places-bare.ensures in
    record {
      sized = sized_bare c.args.loaded c.in_ok-frame.frame c.without_places-bare.result built.frame same;
      few = few_bare c.args.loaded c.without_places-bare.result same;
    }
