use Rattle.std.proofs.Common.{◌≡◌, ◌<◌, ℤ, pos, ◌*ℤ◌, List, arith, get_or, length, subst, sym, ap, ◌∙◌, rules, to_z, of_z, w64}
use Rattle.lf_segments.specs.declared.strip.Strip.{Strip}
use Rattle.lf_rules.specs.Padding.{wider}
use Rattle.lf_occupancy.specs.MarkLists.{IsNearZero}
use Rattle.lf_occupancy.specs.Strips.{widened_strips}
use Rattle.lf_occupancy.proofs.Around.{widened_at, widened_many, strips_widened}
use Rattle.lf_occupancy.proofs.Finds.{no_strip}
use Rattle.lf_occupancy.proofs.widened.widened_area.Goals as goal

pub returns-clause-is : goal.returns-clause-is
returns-clause-is c = λ d.
    let site = c.args.strips.now.site.now in
    let xs = c.args.strips.now.index.now.strips in
    let n = c.args.number in
    let is : to_z w64 (of_z w64 c.reach_of.result) ≡ c.reach_of.result = search rules in
    let many = widened_many site xs in
    let within = c.requires in
    let inner : n < length xs = omega (arith, many, within) in
    c.widen.ensures ∙ ap (λ (by : ℤ). wider by (get_or c.strips.result.now n no_strip).area) (is ∙ c.reach_of.ensures.is)
    ∙ ap (λ (zs : List Strip). wider (pos 16 *ℤ site) (get_or zs n no_strip).area) c.strips.ensures
    ∙ sym (ap (λ (g : Strip). g.area) (widened_at site xs n d no_strip inner))

pub returns-clause-near : goal.returns-clause-near
returns-clause-near c =
    let site = c.args.strips.now.site.now in
    let xs = c.args.strips.now.index.now.strips in
    let n = c.args.number in
    let is : to_z w64 (of_z w64 c.reach_of.result) ≡ c.reach_of.result = search rules in
    let many = widened_many site xs in
    let within = c.requires in
    let inner : n < length xs = omega (arith, many, within) in
    let same : c.widen.result ≡ (get_or (widened_strips site xs) n no_strip).area =
    c.widen.ensures ∙ ap (λ (by : ℤ). wider by (get_or c.strips.result.now n no_strip).area) (is ∙ c.reach_of.ensures.is)
    ∙ ap (λ (zs : List Strip). wider (pos 16 *ℤ site) (get_or zs n no_strip).area) c.strips.ensures
    ∙ sym (ap (λ (g : Strip). g.area) (widened_at site xs n no_strip no_strip inner)) in
    subst IsNearZero (sym same) ((strips_widened site c.args.strips.now.index.now c.args.strips.now.site_width c.strips_are_placed.ensures n no_strip within).near)
