use Rattle.std.proofs.Common.{arith}
use Rattle.std.proofs.lemmas.Int.{clamps, ints}
use Rattle.lf_units.proofs.Edges.{edges_of_shared}
use Rattle.lf_repair_bounds.proofs.SiteLemmas.{end_after, end_before}
use Rattle.lf_repair_bounds.proofs.free_runs.covered_sites.Goals as goal

pub offset_in-requires-2 : goal.offset_in-requires-2
offset_in-requires-2 c =
    let e = edges_of_shared c.args.area.now c.args.rect.now c.requires.overlaps in
    let to = c.min-to.ensures.value in
    let left = c.requires.left in
    let wide = e.wide_first in
    let crosses = e.left in
    omega (arith, ints, clamps, to, left, wide, crosses)

pub returns : goal.returns
returns c =
    let from = c.max-from.ensures.value in
    let to = c.min-to.ensures.value in
    let before = c.offset_in.ensures in
    let after_it = c.offset_in-2.ensures in
    record {
      from = end_before c.args.row.now.x _ _ c.args.step _ (omega (arith, ints, clamps, from, before)) c.sites_before.ensures;
      to = end_after c.args.row.now.x _ _ c.args.step _ (omega (arith, ints, clamps, to, after_it)) c.sites_from.ensures;
    }
