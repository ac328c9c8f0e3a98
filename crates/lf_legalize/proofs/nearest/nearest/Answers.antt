use Rattle.std.proofs.Common.{Option, sym, ◌∙◌}
use Rattle.std.specs.Option.{option_map}
use Rattle.std.proofs.lemmas.Result.{IfOk-weaker}
use Rattle.lf_floorplan.specs.declared.place.Place.{Place}
use Rattle.lf_rules.specs.Choice.{IsChoice, spot_of}
use Rattle.lf_legalize.specs.Extents.{IsWithin}
use Rattle.lf_legalize.specs.RowSearches.{IsChoiceAmong, query_of_search}
use Rattle.lf_legalize.proofs.Rounds.{choice_if_some, choice_of_all}
use Rattle.lf_legalize.proofs.nearest.nearest.Goals as goal

pub returns-then-is_some : goal.returns-then-is_some
returns-then-is_some c =
    choice_if_some (query_of_search c.args.search.now) c.args.search.now.target.now c.loop-reach.reach c.in_ok-best.best
    (sym c.is_some.ensures ∙ c.if-is_some.true) c.in_ok-best.ensures

pub returns : goal.returns
returns c =
    IfOk-weaker c.best_within-2.result
    (λ (found : Option Place). IsChoiceAmong (IsWithin c.args.search.now.target.now c.args.farthest)
    (query_of_search c.args.search.now) c.args.search.now.target.now (option_map spot_of found))
    (λ (found : Option Place). IsChoice (query_of_search c.args.search.now) c.args.search.now.target.now (option_map spot_of found))
    (λ found. choice_of_all (query_of_search c.args.search.now) c.args.search.now.target.now c.args.farthest (option_map spot_of found) c.requires.all)
    c.best_within-2.ensures
