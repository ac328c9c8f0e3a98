use Rattle.std.proofs.Common.{List, sym, subst}
use Rattle.lf_units.specs.declared.placed.Placed.{Placed}
use Rattle.lf_units.specs.Near.{AreAllOverlapping}
use Rattle.lf_repair_bounds.specs.declared.site_runs.SiteRange.{SiteRange}
use Rattle.lf_repair_bounds.specs.SiteRuns.{IsLongestRun}
use Rattle.lf_repair_bounds.proofs.StripRunLemmas.{widest_of_longest, width_fits}
use Rattle.lf_repair_bounds.proofs.free_runs.widest_in.Goals as goal

pub width_of-requires : goal.width_of-requires
width_of-requires c =
    let sites = c.whole_sites-sites.result in
    let ranges = c.in_ok-blocked.blocked.items in
    let near = subst (λ (found : List Placed). AreAllOverlapping c.args.tree.now c.args.area.now found) (sym c.as_slice.ensures.value) c.in_ok-find_overlapping.ensures in
    let longest = subst (λ (list : List SiteRange). IsLongestRun sites list c.longest_run-count.result) c.as_slice-2.ensures.value c.longest_run-count.ensures in
    width_fits c.args.frame.now c.args.row.now c.args.area.now c.args.tree.now c.as_slice.result.now c.site_width-step.result sites ranges
    c.site_width-step.ensures.is c.site_width-step.ensures.positive c.requires near c.in_ok-blocked.ensures.covered c.whole_sites-sites.ensures
    c.longest_run-count.result longest

pub returns : goal.returns
returns c =
    let sites = c.whole_sites-sites.result in
    let ranges = c.in_ok-blocked.blocked.items in
    let near = subst (λ (found : List Placed). AreAllOverlapping c.args.tree.now c.args.area.now found) (sym c.as_slice.ensures.value) c.in_ok-find_overlapping.ensures in
    let longest = subst (λ (list : List SiteRange). IsLongestRun sites list c.longest_run-count.result) c.as_slice-2.ensures.value c.longest_run-count.ensures in
    widest_of_longest c.args.frame.now c.args.row.now c.args.area.now c.args.tree.now c.as_slice.result.now c.site_width-step.result sites ranges
    c.site_width-step.ensures.is c.site_width-step.ensures.positive c.requires near c.in_ok-blocked.ensures.covered c.whole_sites-sites.ensures
    c.longest_run-count.result c.width_of.result longest c.width_of.ensures
