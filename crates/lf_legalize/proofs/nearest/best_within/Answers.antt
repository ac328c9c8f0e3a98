use Rattle.std.proofs.Common.{◌⊎◌, Option, None, arith}
use Rattle.std.specs.Option.{option_map}
use Rattle.std.proofs.lemmas.Int.{ints}
use Rattle.std.proofs.lemmas.Result.{IfOk-weaker}
use Rattle.lf_floorplan.specs.declared.place.Place.{Place}
use Rattle.lf_rules.specs.Choice.{SpotPlace, spot_of}
use Rattle.lf_segments.specs.RowsByY.{IsEntryOf}
use Rattle.lf_legalize.specs.Extents.{IsOnEntries, IsWithin, ScansPlacesWithin}
use Rattle.lf_legalize.specs.RowSearches.{IsChoiceAmong, query_of_search}
use Rattle.lf_legalize.proofs.Rounds.{all_seen, chosen_near, other_side, run_holds, searched_both}
use Rattle.lf_legalize.proofs.nearest.best_within.Goals as goal

pub best_upward-requires-clause-known : goal.best_upward-requires-clause-known
best_upward-requires-clause-known c k d less =
    let run = rw c.rows_of-2.ensures at c.between-above.ensures in
    run_holds (IsEntryOf c.args.search.now.frame.now) c.args.search.now.occupancy.now.index.rows run.before c.between-above.result.now run.after_it run.parts
    c.search_is_occupied.ensures.index.rows.known k d less

pub best_downward-requires-clause-known : goal.best_downward-requires-clause-known
best_downward-requires-clause-known c k d less =
    let run = rw c.rows_of.ensures at c.between-below.ensures in
    run_holds (IsEntryOf c.args.search.now.frame.now) c.args.search.now.occupancy.now.index.rows run.before c.between-below.result.now run.after_it run.parts
    c.search_is_occupied.ensures.index.rows.known k d less

pub returns-then-is_nearer_above : goal.returns-then-is_nearer_above
returns-then-is_nearer_above c =
    let s = c.args.search.now in
    let query = query_of_search s in
    let target = s.target.now in
    let reach = c.args.reach in
    let Below : SpotPlace → Type 0 = IsOnEntries s.frame.now s.size c.between-below.result.now in
    let Above : SpotPlace → Type 0 = IsOnEntries s.frame.now s.size c.between-above.result.now in
    let Seen : SpotPlace → Type 0 = λ p. Below p ⊎ Above p in
    let mid = option_map spot_of c.in_ok-best.best in
    IfOk-weaker c.best_downward.result (λ (found : Option Place). ScansPlacesWithin Below query target reach mid (option_map spot_of found))
    (λ (found : Option Place). IsChoiceAmong (IsWithin target reach) query target (option_map spot_of found))
    (λ found second.
    chosen_near Seen query target reach (option_map spot_of found)
    (λ p may. all_seen s c.between-below.result.now c.between-above.result.now reach _ _ _ _ c.runs_have_rows.ensures.between
    c.search_is_occupied.ensures.index.rows (rw c.rows_of.ensures at c.between-below.ensures) (rw c.rows_of-2.ensures at c.between-above.ensures)
    (omega (arith, ints, c.requires, s.near.up.low, s.near.up.high)) (omega (arith, ints, s.near.up.low, s.near.up.high))
    (omega (arith, ints, s.near.up.low, s.near.up.high)) (omega (arith, ints, c.requires, s.near.up.low, s.near.up.high)) p may.legal)
    (searched_both Above Below Seen query target reach None mid (option_map spot_of found) (λ p. other_side (Below p) (Above p)) c.in_ok-best.ensures second))
    c.best_downward.ensures

pub best_downward-requires-2-clause-known : goal.best_downward-requires-2-clause-known
best_downward-requires-2-clause-known c k d less =
    let run = rw c.rows_of.ensures at c.between-below.ensures in
    run_holds (IsEntryOf c.args.search.now.frame.now) c.args.search.now.occupancy.now.index.rows run.before c.between-below.result.now run.after_it run.parts
    c.search_is_occupied.ensures.index.rows.known k d less

pub best_upward-requires-2-clause-known : goal.best_upward-requires-2-clause-known
best_upward-requires-2-clause-known c k d less =
    let run = rw c.rows_of-2.ensures at c.between-above.ensures in
    run_holds (IsEntryOf c.args.search.now.frame.now) c.args.search.now.occupancy.now.index.rows run.before c.between-above.result.now run.after_it run.parts
    c.search_is_occupied.ensures.index.rows.known k d less

pub returns : goal.returns
returns c =
    let s = c.args.search.now in
    let query = query_of_search s in
    let target = s.target.now in
    let reach = c.args.reach in
    let Below : SpotPlace → Type 0 = IsOnEntries s.frame.now s.size c.between-below.result.now in
    let Above : SpotPlace → Type 0 = IsOnEntries s.frame.now s.size c.between-above.result.now in
    let Seen : SpotPlace → Type 0 = λ p. Below p ⊎ Above p in
    let mid = option_map spot_of c.in_ok-best-2.best in
    IfOk-weaker c.best_upward-2.result (λ (found : Option Place). ScansPlacesWithin Above query target reach mid (option_map spot_of found))
    (λ (found : Option Place). IsChoiceAmong (IsWithin target reach) query target (option_map spot_of found))
    (λ found second.
    chosen_near Seen query target reach (option_map spot_of found)
    (λ p may. all_seen s c.between-below.result.now c.between-above.result.now reach _ _ _ _ c.runs_have_rows.ensures.between
    c.search_is_occupied.ensures.index.rows (rw c.rows_of.ensures at c.between-below.ensures) (rw c.rows_of-2.ensures at c.between-above.ensures)
    (omega (arith, ints, c.requires, s.near.up.low, s.near.up.high)) (omega (arith, ints, s.near.up.low, s.near.up.high))
    (omega (arith, ints, s.near.up.low, s.near.up.high)) (omega (arith, ints, c.requires, s.near.up.low, s.near.up.high)) p may.legal)
    (searched_both Below Above Seen query target reach None mid (option_map spot_of found) (λ p seen. seen) c.in_ok-best-2.ensures second))
    c.best_upward-2.ensures
