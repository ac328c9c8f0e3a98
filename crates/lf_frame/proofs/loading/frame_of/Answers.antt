use Rattle.std.proofs.Common.{◌≡◌, Some, sym}
use Rattle.lf_floorplan.specs.declared.sites.Site.{Site}
use Rattle.lf_frame.specs.Findings.{LoadInputs, inputs, core_in}
use Rattle.lf_frame.proofs.Accepted.{core_there, borrowed_there, core_whole, pitch_there, fixed_sized}
use Rattle.lf_frame.proofs.FrameMade.{frame_kept}
use Rattle.lf_frame.proofs.loading.frame_of.Goals as goal

pub unwrap-core-requires : goal.unwrap-core-requires
unwrap-core-requires c =
    let i : LoadInputs = inputs c.args.library.now c.args.document.now c.args.limits.now in
    borrowed_there c.sized_core_site.result (rw c.as_slice.ensures at c.sized_core_site.ensures.core) (core_there i c.requires)

pub unwrap-pitch-requires : goal.unwrap-pitch-requires
unwrap-pitch-requires c =
    let i : LoadInputs = inputs c.args.library.now c.args.document.now c.args.limits.now in
    let core_is : Some c.unwrap-core.result.now ≡ core_in i = rw c.unwrap-core.ensures at (rw c.as_slice.ensures at c.sized_core_site.ensures.core) in
    let found = rw c.units_of-units.ensures.units at c.core_pitch.ensures in
    pitch_there _ c.core_pitch.result found (core_whole i c.unwrap-core.result.now (sym core_is) c.requires)

pub obstacles_of-requires : goal.obstacles_of-requires
obstacles_of-requires c =
    let i : LoadInputs = inputs c.args.library.now c.args.document.now c.args.limits.now in
    record { sized = rw c.units_of-units.ensures.units (fixed_sized i c.ranges_kept.ensures c.requires) }

pub invariant_of-result : goal.invariant_of-result
invariant_of-result c =
    let i : LoadInputs = inputs c.args.library.now c.args.document.now c.args.limits.now in
    let core : Site = c.unwrap-core.result.now in
    let core_is : Some core ≡ core_in i = rw c.unwrap-core.ensures at (rw c.as_slice.ensures at c.sized_core_site.ensures.core) in
    let found = rw c.unwrap-pitch.ensures at (rw c.units_of-units.ensures.units at c.core_pitch.ensures) in
    let kept = frame_kept i core c.ranges_kept.ensures c.requires (sym core_is) (rw c.unwrap-core.ensures at c.sized_core_site.ensures.range)
    (rw c.unwrap-core.ensures at c.sized_core_site.ensures.sized) found.0 in
    let site = c.in_ok-copy_site.ensures {u = tt} in
    let rows = rw c.as_slice-2.ensures at (c.in_ok-core_rows.ensures {u = tt}) in
    let teams = rw c.as_slice-3.ensures at (c.in_ok-fence_teams.ensures {u = tt}) in
    let obstacles = rw c.units_of-units.ensures.units at (c.in_ok-obstacles_of.ensures {u = tt}) in
    let soft = rw c.as_slice-4.ensures at (c.in_ok-soft_rects.ensures {u = tt}) in
    let macros = rw c.macros.ensures.macros at (c.in_ok-copy_macros.ensures {u = tt}) in
    let header = rw c.units_of-units.ensures.units at (c.in_ok-copy_header.ensures {u = tt}) in
    record {
      units_in_range = rw header c.ranges_kept.ensures.units;
      site_in_lef = rw site kept.site_in_lef;
      pitch_whole = rw (header, site, found.1) kept.pitch_whole;
      has_row = rw rows kept.has_row;
      few_rows = rw rows kept.few_rows;
      rows_are_core = rw (found.1, rows) kept.rows_are_core;
      rows_apart = rw (found.1, rows) kept.rows_apart;
      few_fences = rw teams kept.few_fences;
      fences_whole = rw teams kept.fences_whole;
      fences_named = rw teams kept.fences_named;
      fences_apart = rw teams kept.fences_apart;
      obstacles_in_range = rw (obstacles, header, macros) kept.obstacles_in_range;
      soft_in_def = rw soft kept.soft_in_def;
      macros_in_lef = rw macros kept.macros_in_lef;
    }
