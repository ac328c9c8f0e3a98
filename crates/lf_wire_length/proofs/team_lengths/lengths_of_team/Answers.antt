use Rattle.std.proofs.Common.{◌≡◌, ◌∙◌, ap, arith, fold, map, take}
use Rattle.std.proofs.lemmas.List.{take_all}
use Rattle.lf_wire_length.specs.Stored.{pin_stored, stored_nets}
use Rattle.lf_wire_length.specs.Teams.{no_team_lengths, with_pins_of_team}
use Rattle.lf_wire_length.proofs.CountLemmas.{team_is_counted}
use Rattle.lf_wire_length.proofs.StoredLemmas.{nets_counted}
use Rattle.lf_wire_length.proofs.TeamLemmas.{summaries_counted}
use Rattle.lf_wire_length.proofs.team_lengths.lengths_of_team.Goals as goal

pub with_net-sums-requires-clause-net : goal.with_net-sums-requires-clause-net
with_net-sums-requires-clause-net g c =
    let many = summaries_counted (g.P.PlacedCells.place_of c.args.places.now) (g.P.PlacedCells.team_of c.args.places.now) c.args.stored.now c.args.summaries.now c.requires.summaries in
    omega (arith, many, c.loop-net-test.true)

pub returns : goal.returns
returns g c =
    let place = g.P.PlacedCells.place_of c.args.places.now in
    let team = g.P.PlacedCells.team_of c.args.places.now in
    let many = summaries_counted place team c.args.stored.now c.args.summaries.now c.requires.summaries in
    let nets = nets_counted c.args.stored.now.starts.now (map (pin_stored c.args.stored.now.rows.now) c.args.stored.now.pins.now) in
    let all : take c.loop-net.net (stored_nets c.args.stored.now) ≡ stored_nets c.args.stored.now = take_all _ _ (omega (arith, many, nets, c.loop-net-test.false)) in
    c.loop-net.invariant.so_far ∙ ap (fold (with_pins_of_team place team c.args.own) no_team_lengths) all ∙ team_is_counted place team (stored_nets c.args.stored.now) c.args.own
