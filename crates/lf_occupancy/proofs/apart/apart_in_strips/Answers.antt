use Rattle.std.proofs.Common.{◌≡◌, ◌<◌, List, length, get_or, ap, arith, pos, ◌*ℤ◌, subst, sym, ◌∙◌}
use Rattle.lf_units.specs.declared.geometry.Rect.{Rect}
use Rattle.lf_segments.specs.declared.strip.Strip.{Strip}
use Rattle.lf_segments.specs.Indexes.{IsInside}
use Rattle.lf_rules.specs.Padding.{wider}
use Rattle.lf_occupancy.specs.Strips.{widened_strips}
use Rattle.lf_occupancy.proofs.Around.{widened_at, widened_many}
use Rattle.lf_occupancy.proofs.Finds.{no_strip}
use Rattle.lf_occupancy.proofs.Separating.{wider_inside}
use Rattle.lf_occupancy.proofs.Showing.{one_marked, widened_team}
use Rattle.lf_occupancy.proofs.apart.apart_in_strips.Goals as goal

pub push_apart-requires-clause-marked : goal.push_apart-requires-clause-marked
push_apart-requires-clause-marked c =
    let site = c.args.marked.now.strips.now.site.now in
    let xs = c.args.marked.now.strips.now.index.now.strips in
    let n = c.loop-n.n in
    let near = c.strips_overlapping-near.ensures in
    let bound = near.within in
    let test = c.loop-n-test.true in
    let long = widened_many site xs in
    let within : n < length xs = omega (arith, bound, test) in
    one_marked (widened_strips site xs) c.args.marked.now.boxes.now c.args.marked.now.mark_lists.now n c.args.team c.widened_area.result c.index-mark_lists-n.result
    c.requires.mark_lists (omega (arith, within, long))
    (widened_team site xs n c.args.team within (λ d. ((near.exact n d within).0 (c.loop-n.auto.n, test)).of_team))
    (c.widened_area.ensures.is no_strip) c.index-mark_lists-n.is

pub push_apart-requires-clause-around : goal.push_apart-requires-clause-around
push_apart-requires-clause-around c =
    let site = c.args.marked.now.strips.now.site.now in
    let xs = c.args.marked.now.strips.now.index.now.strips in
    let padding = c.args.padding.now.length in
    let n = c.loop-n.n in
    let bound = c.strips_overlapping-near.ensures.within in
    let test = c.loop-n-test.true in
    let within : n < length xs = omega (arith, bound, test) in
    let is : c.widened_area.result ≡ wider (pos 16 *ℤ site) (get_or xs n no_strip).area =
    c.widened_area.ensures.is no_strip ∙ ap (λ (g : Strip). g.area) (widened_at site xs n no_strip no_strip within) in
    subst (λ (a : Rect). IsInside (wider padding (get_or c.strips-list.result.now n no_strip).area) a) (sym is)
    (subst (λ (zs : List Strip). IsInside (wider padding (get_or zs n no_strip).area) (wider (pos 16 *ℤ site) (get_or xs n no_strip).area)) (sym c.strips-list.ensures)
    (wider_inside padding (pos 16 *ℤ site) (get_or xs n no_strip).area c.requires.reach))
