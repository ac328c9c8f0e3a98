use Rattle.std.proofs.Common.{◌≡◌, [], map, take, arith, ap, ◌∙◌}
use Rattle.std.proofs.lemmas.List.{take_all}
use Rattle.std.proofs.lemmas.List.Elements.{All-push}
use Rattle.lf_wire_length.specs.Stored.{nets_from, pin_stored}
use Rattle.lf_wire_length.specs.Teams.{IsSummaryInRange, net_summary}
use Rattle.lf_wire_length.proofs.StoredLemmas.{nets_counted}
use Rattle.lf_wire_length.proofs.TeamLemmas.{mapped_more}
use Rattle.lf_wire_length.proofs.joined.summaries.Goals as goal

pub loop-net-preserved : goal.loop-net-preserved
loop-net-preserved g c =
    let stored = map (pin_stored c.args.rows.now) c.args.pins.now in
    let many = nets_counted c.args.starts.now stored in
    record {
      summarized = c.in_ok-push.ensures.items
          ∙ mapped_more (net_summary (g.P.PlacedCells.place_of c.args.places.now) (g.P.PlacedCells.team_of c.args.places.now)) (nets_from c.args.starts.now stored) c.loop-net.net []
          c.loop-net.nets.items c.summary_of.result (omega (arith, many, c.loop-net-test.true)) c.loop-net.invariant.summarized c.summary_of.ensures.is;
      in_range = rw c.in_ok-push.ensures.items (All-push IsSummaryInRange c.loop-net.nets.items c.summary_of.result c.loop-net.invariant.in_range c.summary_of.ensures.in_range);
    }

pub returns-clause-are : goal.returns-clause-are
returns-clause-are g c =
    let stored = map (pin_stored c.args.rows.now) c.args.pins.now in
    let nets = nets_from c.args.starts.now stored in
    let many = nets_counted c.args.starts.now stored in
    let whole : take c.loop-net.net nets ≡ nets = take_all c.loop-net.net nets (omega (arith, many, c.loop-net-test.false)) in
    c.loop-net.invariant.summarized ∙ ap (map (net_summary (g.P.PlacedCells.place_of c.args.places.now) (g.P.PlacedCells.team_of c.args.places.now))) whole
