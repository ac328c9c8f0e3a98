use Rattle.std.proofs.Common.{◌≡◌, ◌∙◌, ap, arith, fold, map, take}
use Rattle.std.proofs.lemmas.List.{take_all}
use Rattle.lf_wire_length.specs.Counts.{no_counts, with_pins_of_net}
use Rattle.lf_wire_length.specs.Stored.{pin_stored, stored_nets}
use Rattle.lf_wire_length.proofs.CountLemmas.{nets_are_counted}
use Rattle.lf_wire_length.proofs.StoredLemmas.{nets_counted}
use Rattle.lf_wire_length.proofs.TeamLemmas.{summaries_counted}
use Rattle.lf_wire_length.proofs.counts.counts_of_nets.Goals as goal

pub counts_of_net-pins-requires-clause-net : goal.counts_of_net-pins-requires-clause-net
counts_of_net-pins-requires-clause-net g c =
    let many = summaries_counted (g.P.PlacedCells.place_of c.args.places.now) (g.P.PlacedCells.team_of c.args.places.now) c.args.stored.now c.args.summaries.now c.requires.summaries in
    omega (arith, many, c.loop-net-test.true)

pub with_net-counts-requires-clause-net : goal.with_net-counts-requires-clause-net
with_net-counts-requires-clause-net g c =
    let many = summaries_counted (g.P.PlacedCells.place_of c.args.places.now) (g.P.PlacedCells.team_of c.args.places.now) c.args.stored.now c.args.summaries.now c.requires.summaries in
    omega (arith, many, c.loop-net-test.true, c.requires.few_nets)

pub returns : goal.returns
returns g c =
    let place = g.P.PlacedCells.place_of c.args.places.now in
    let team = g.P.PlacedCells.team_of c.args.places.now in
    let many = summaries_counted place team c.args.stored.now c.args.summaries.now c.requires.summaries in
    let nets = nets_counted c.args.stored.now.starts.now (map (pin_stored c.args.stored.now.rows.now) c.args.stored.now.pins.now) in
    let all : take c.loop-net.net (stored_nets c.args.stored.now) ≡ stored_nets c.args.stored.now = take_all _ _ (omega (arith, many, nets, c.loop-net-test.false)) in
    c.loop-net.invariant.so_far ∙ ap (fold (with_pins_of_net place team) no_counts) all ∙ nets_are_counted place team (stored_nets c.args.stored.now)
