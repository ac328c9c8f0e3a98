use Rattle.std.proofs.Common.{refl, slice_get, Some, rules, length, ◌≡◌}
use Rattle.std.specs.Option.{option_map}
use Rattle.std.proofs.lemmas.Option.{slice_get_read}
use Rattle.lf_rules.specs.Choice.{IsChoice, spot_of}
use Rattle.lf_rules.proofs.SiteLemmas.{next_row, chosen}
use Rattle.lf_rules.proofs.ChoiceLemmas.{choice_one}
use Rattle.lf_legalize.specs.Queries.{query_without}
use Rattle.lf_legalize.proofs.plain_search.best_place.Goals as goal

pub loop-row-preserved : goal.loop-row-preserved
loop-row-preserved c =
    let there : slice_get c.args.frame.now.rows c.loop-row.row-index ≡ Some c.row-item.result =
    slice_get_read _ _ c.loop-row.row-index c.row-item.result refl (search rules) (search rules) in
    next_row _ _ _ _ _ c.row-item.result _ _ _ there c.loop-row.invariant c.with_row-best.ensures

found : (c : goal.After-loop-row) →
    IsChoice (query_without c.args.frame.now c.args.team c.args.padding.sites c.args.mac.now c.args.others.now) c.args.target.now (option_map spot_of c.loop-row.best)
found c =
    let all : c.loop-row.row-index ≡ length c.args.frame.now.rows = search rules in
    chosen _ _ _ c.requires (rw (← all) c.loop-row.invariant)

pub returns-clause-best : goal.returns-clause-best
returns-clause-best c = found c

pub returns-clause-one : goal.returns-clause-one
returns-clause-one c l =
    let cell = query_without c.args.frame.now c.args.team c.args.padding.sites c.args.mac.now c.args.others.now in
    choice_one cell c.args.target.now (option_map spot_of c.loop-row.best) (l.best_place cell c.args.target.now)
    (found c) (l.finds_best_place cell c.args.target.now c.requires)
