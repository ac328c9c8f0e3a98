use Rattle.std.proofs.Common.{◌≡◌, pos, rules, length, arith}
use Rattle.std.proofs.lemmas.Option.{slice_get-get_or}
use Rattle.std.specs.Option.{option_map}
use Rattle.lf_rules.specs.Choice.{spot_of}
use Rattle.lf_legalize.specs.RowSearches.{query_of_search}
use Rattle.lf_legalize.proofs.Rounds.{all_entries, entry_before, no_entry}
use Rattle.lf_legalize.proofs.nearest.best_downward.Goals as goal

pub loop-n-init : goal.loop-n-init
loop-n-init c = record {
  within = omega arith;
  searched = no_entry c.args.search.now.frame.now c.args.search.now.size c.args.entries.now (length c.args.entries.now)
      (query_of_search c.args.search.now) c.args.search.now.target.now c.args.reach (option_map spot_of c.args.so_far);
}

pub with_row-requires-clause-known : goal.with_row-requires-clause-known
with_row-requires-clause-known c = c.requires.known _ record { y = pos 0; x = pos 0; row = 0 } (search rules)

pub loop-n-preserved : goal.loop-n-preserved
loop-n-preserved c = record {
  within = omega (arith, c.loop-n.invariant.within);
  searched = entry_before c.args.search.now.frame.now c.args.search.now.size c.args.entries.now _ c.loop-n.n (length c.args.entries.now) _
      (query_of_search c.args.search.now) c.args.search.now.target.now c.args.reach _ _ _ (omega arith)
      (slice_get-get_or c.args.entries.now _ record { y = pos 0; x = pos 0; row = 0 } (search rules))
      c.loop-n.invariant.searched c.in_ok-best.ensures;
}

pub returns : goal.returns
returns c =
    let none : c.loop-n.n ≡ 0 = search rules in
    all_entries c.args.search.now.frame.now c.args.search.now.size c.args.entries.now (query_of_search c.args.search.now)
    c.args.search.now.target.now c.args.reach (option_map spot_of c.args.so_far) (option_map spot_of c.loop-n.best)
    (rw none at c.loop-n.invariant.searched)
