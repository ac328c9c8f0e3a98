use Rattle.std.proofs.Common.{[], ap, arith, map, sym}
use Rattle.std.proofs.lemmas.List.{get_or_past}
use Rattle.lf_wire_length.specs.Length.{length_of_net}
use Rattle.lf_wire_length.specs.Stored.{nets_from, pin_stored}
use Rattle.lf_wire_length.proofs.StoredLemmas.{nets_counted}
use Rattle.lf_wire_length.proofs.measure.length_if_stored.Goals as goal

pub returns-else-net-starts : goal.returns-else-net-starts
returns-else-net-starts g c =
    let stored = map (pin_stored c.args.rows.now) c.args.pins.now in
    let nets = nets_from c.args.starts.now stored in
    sym (ap (length_of_net (g.P.PlacedCells.place_of c.args.places.now)) (get_or_past nets c.args.net [] (omega (arith, nets_counted c.args.starts.now stored, c.if-net-starts.false))))
