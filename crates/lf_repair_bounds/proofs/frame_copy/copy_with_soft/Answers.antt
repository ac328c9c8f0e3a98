use Rattle.std.proofs.Common.{refl}
use Rattle.lf_repair_bounds.proofs.frame_copy.copy_with_soft.Goals as goal

pub invariant_of-result : goal.invariant_of-result
invariant_of-result c =
    let kept = c.args.frame.now in
    let site = c.in_ok-copy_site.ensures {u = tt} in
    let rows = rw c.as_slice.ensures at (c.in_ok-copy_rows.ensures {u = tt}) in
    let teams = rw c.as_slice-2.ensures at (c.in_ok-copy_fences.ensures {u = tt}) in
    let obstacles = rw c.as_slice-3.ensures at (c.in_ok-copy_rects.ensures {u = tt}) in
    let soft = c.in_ok-copy_rects-2.ensures {u = tt} in
    let macros = rw c.as_slice-4.ensures at (c.in_ok-copy_macros.ensures {u = tt}) in
    let header = c.in_ok-copy_header.ensures {u = tt} in
    record {
      units_in_range = rw header kept.units_in_range;
      site_in_lef = rw site kept.site_in_lef;
      pitch_whole = rw (header, site) kept.pitch_whole;
      has_row = rw rows kept.has_row;
      few_rows = rw rows kept.few_rows;
      rows_are_core = rw rows kept.rows_are_core;
      rows_apart = rw rows kept.rows_apart;
      few_fences = rw teams kept.few_fences;
      fences_whole = rw teams kept.fences_whole;
      fences_named = rw teams kept.fences_named;
      fences_apart = rw teams kept.fences_apart;
      obstacles_in_range = rw (header, macros, obstacles) kept.obstacles_in_range;
      soft_in_def = rw soft c.requires;
      macros_in_lef = rw macros kept.macros_in_lef;
    }

pub returns-clause-copies : goal.returns-clause-copies
returns-clause-copies c =
    let site = c.in_ok-copy_site.ensures {u = tt} in
    let rows = rw c.as_slice.ensures at (c.in_ok-copy_rows.ensures {u = tt}) in
    let teams = rw c.as_slice-2.ensures at (c.in_ok-copy_fences.ensures {u = tt}) in
    let obstacles = rw c.as_slice-3.ensures at (c.in_ok-copy_rects.ensures {u = tt}) in
    let macros = rw c.as_slice-4.ensures at (c.in_ok-copy_macros.ensures {u = tt}) in
    let header = c.in_ok-copy_header.ensures {u = tt} in
    record {
      site = site;
      pitch = refl;
      rows = rows;
      teams = teams;
      obstacles = obstacles;
      macros = macros;
      header = header;
      limits = refl;
    }
