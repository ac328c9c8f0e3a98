-- What a search for the best place knows so far. No public clause cites this module.
use Rattle.std.specs.Prelude.{Option}
use Rattle.std.specs.Option.{option_map}
use Rattle.lf_floorplan.specs.declared.place.Place.{Place}
use Rattle.lf_rules.specs.Choice.{SpotPlace, PlacementQuery, spot_of}
use Rattle.lf_rules.specs.Scanning.{ScansPlaces as LooksAtSpots}
use Rattle.lf_legalize.specs.Queries.{query_without}
use Rattle.lf_legalize.specs.declared.search.Search.{Search}

-- the cell whose best place is searched for
abbrev pub searched_cell : Search → PlacementQuery
searched_cell s = query_without s.frame.now s.team s.padding.sites s.mac.now s.others.now

-- from the best place so far to the one after comparison with the seen places
abbrev pub SearchScansPlaces : (SpotPlace → Type 0) → Search → Option Place → Option Place → Type 0
SearchScansPlaces Seen s old new =
    LooksAtSpots Seen (searched_cell s) s.target.now (option_map spot_of old) (option_map spot_of new)
