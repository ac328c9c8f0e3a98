use Rattle.std.specs.Option.{option_map}
use Rattle.lf_rules.specs.Choice.{spot_of}
use Rattle.lf_rules.proofs.SiteLemmas.{all_four}
use Rattle.lf_legalize.specs.Searches.{searched_cell}
use Rattle.lf_legalize.proofs.plain_search.with_site.Goals as goal

pub returns : goal.returns
returns c =
    all_four (searched_cell c.args.at.now.search.now) c.args.at.now.search.now.target.now c.args.at.now.search.now.frame.now.pitch c.args.at.now.row.now c.args.at.now.site
    (option_map spot_of c.args.best) (option_map spot_of c.with_place-north.result) (option_map spot_of c.with_place-south.result)
    (option_map spot_of c.with_place-mirrored.result) (option_map spot_of c.with_place.result)
    (spot_of c.place_at.result) (spot_of c.place_at-2.result) (spot_of c.place_at-3.result) (spot_of c.place_at-4.result)
    c.place_at.ensures c.place_at-2.ensures c.place_at-3.ensures c.place_at-4.ensures
    c.with_place-north.ensures c.with_place-south.ensures c.with_place-mirrored.ensures c.with_place.ensures
