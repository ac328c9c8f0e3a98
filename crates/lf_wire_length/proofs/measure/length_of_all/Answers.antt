use Rattle.std.proofs.Common.{◌≡◌, ap, ◌∙◌, arith, map, sum_by, take}
use Rattle.std.proofs.lemmas.List.{take_all}
use Rattle.lf_wire_length.specs.Length.{length_of_net}
use Rattle.lf_wire_length.specs.Stored.{nets_from, pin_stored}
use Rattle.lf_wire_length.proofs.StoredLemmas.{nets_counted}
use Rattle.lf_wire_length.proofs.measure.length_of_all.Goals as goal

pub returns : goal.returns
returns g c =
    let stored = map (pin_stored c.args.rows.now) c.args.pins.now in
    let nets = nets_from c.args.starts.now stored in
    let whole : take c.loop-net.net nets ≡ nets = take_all c.loop-net.net nets (omega (arith, nets_counted c.args.starts.now stored)) in
    c.loop-net.invariant.total_so_far ∙ ap (sum_by (length_of_net (g.P.PlacedCells.place_of c.args.places.now))) whole
