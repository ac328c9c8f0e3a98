use Rattle.std.proofs.Common.{◌<◌, rules, subst, sym}
use Rattle.std.specs.Prelude.{All, AllPairs}
use Rattle.lf_segments.specs.Segments.{ComesBefore}
use Rattle.lf_segments.proofs.RunLemmas.{rows_rise}
use Rattle.lf_segments.proofs.segments.indexed.Goals as goal

pub build-requires : goal.build-requires
build-requires c =
    let known : All (λ g. g.row < c.len.result) c.as_slice.result.now = search rules in
    record { order = rows_rise _ (subst (AllPairs ComesBefore) (sym c.as_slice.ensures.value) c.requires.order); known = known }
