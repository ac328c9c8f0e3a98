use Rattle.std.proofs.Common.{◌≡◌, pos, rules, length}
use Rattle.std.proofs.lemmas.Option.{slice_get-get_or}
use Rattle.std.specs.Option.{option_map}
use Rattle.lf_rules.specs.Choice.{spot_of}
use Rattle.lf_legalize.specs.RowSearches.{query_of_search}
use Rattle.lf_legalize.proofs.Rounds.{all_entries, next_entry, no_entry}
use Rattle.lf_legalize.proofs.nearest.best_upward.Goals as goal

pub loop-entry-init : goal.loop-entry-init
loop-entry-init c =
    no_entry c.args.search.now.frame.now c.args.search.now.size c.args.entries.now 0 (query_of_search c.args.search.now)
    c.args.search.now.target.now c.args.reach (option_map spot_of c.args.so_far)

pub with_row-requires-clause-known : goal.with_row-requires-clause-known
with_row-requires-clause-known c =
    c.requires.known c.loop-entry.entry-index record { y = pos 0; x = pos 0; row = 0 } (search rules)

pub loop-entry-preserved : goal.loop-entry-preserved
loop-entry-preserved c =
    next_entry c.args.search.now.frame.now c.args.search.now.size c.args.entries.now c.loop-entry.entry-index _ (query_of_search c.args.search.now)
    c.args.search.now.target.now c.args.reach _ _ _
    (slice_get-get_or c.args.entries.now c.loop-entry.entry-index record { y = pos 0; x = pos 0; row = 0 } (search rules))
    c.loop-entry.invariant c.in_ok-best.ensures

pub returns : goal.returns
returns c =
    let all : c.loop-entry.entry-index ≡ length c.args.entries.now = search rules in
    all_entries c.args.search.now.frame.now c.args.search.now.size c.args.entries.now (query_of_search c.args.search.now)
    c.args.search.now.target.now c.args.reach (option_map spot_of c.args.so_far) (option_map spot_of c.loop-entry.best)
    (rw (← all) c.loop-entry.invariant)
