use Rattle.std.specs.Option.{option_map}
use Rattle.std.proofs.lemmas.Option.{slice_get_within}
use Rattle.lf_rules.specs.Choice.{spot_of}
use Rattle.lf_legalize.specs.RowSearches.{query_of_search}
use Rattle.lf_legalize.proofs.Reaches.{row_passed, row_empty, row_found}
use Rattle.lf_legalize.proofs.nearest.with_row.Goals as goal

pub returns-then-limit-rise : goal.returns-then-limit-rise
returns-then-limit-rise c =
    row_passed c.args.search.now.frame.now c.args.search.now.size (query_of_search c.args.search.now) c.args.search.now.target.now c.args.reach
    (option_map spot_of c.args.best) c.args.entry.now c.requires.known
    (rw (← c.limit-limit.ensures, ← c.gap-rise.ensures) c.if-limit-rise.true)

pub best_in_window-requires : goal.best_in_window-requires
best_in_window-requires c = slice_get_within c.args.search.now.frame.now.rows c.args.entry.now.row c.requires.known.row c.requires.known.is_in_place

pub returns-in-None : goal.returns-in-None
returns-in-None c =
    let found = c.in_ok-best_in_window.ensures c.requires.known.row c.requires.known.is_in_place in
    let none = rw c.in-None.is at found in
    row_empty c.args.search.now.frame.now c.args.search.now.size (query_of_search c.args.search.now) c.args.search.now.target.now c.args.reach c.gap-rise.result
    (option_map spot_of c.args.best) c.args.entry.now c.requires.known c.window-window.result.span c.gap-rise.ensures
    (rw (← c.limit-limit.ensures) c.if-limit-rise.false)
    (rw (← c.limit-limit.ensures) c.window-window.ensures.lo) (rw (← c.limit-limit.ensures) c.window-window.ensures.hi) none

pub returns-in-Some : goal.returns-in-Some
returns-in-Some c =
    let found = c.in_ok-best_in_window.ensures c.requires.known.row c.requires.known.is_in_place in
    let some = rw c.in-Some.is at found in
    row_found c.args.search.now.frame.now c.args.search.now.size (query_of_search c.args.search.now) c.args.search.now.target.now c.args.reach c.gap-rise.result
    (option_map spot_of c.args.best) (option_map spot_of c.better.result)
    c.args.entry.now c.requires.known c.window-window.result.span (spot_of c.in-Some.place) c.gap-rise.ensures
    (rw (← c.limit-limit.ensures) c.if-limit-rise.false)
    (rw (← c.limit-limit.ensures) c.window-window.ensures.lo) (rw (← c.limit-limit.ensures) c.window-window.ensures.hi) some c.better.ensures
