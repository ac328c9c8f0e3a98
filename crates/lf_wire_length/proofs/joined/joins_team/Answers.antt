use Rattle.std.proofs.Common.{◌≡◌, take, arith, sym, ◌∙◌}
use Rattle.std.proofs.lemmas.List.{take_all}
use Rattle.lf_wire_length.proofs.TeamLemmas.{team_mapped}
use Rattle.lf_wire_length.proofs.joined.joins_team.Goals as goal

pub returns : goal.returns
returns g c =
    let whole : take c.loop-pin.pin-index c.args.pins.now ≡ c.args.pins.now = take_all c.loop-pin.pin-index c.args.pins.now (omega (arith, c.loop-pin-test.false)) in
    sym (team_mapped (g.P.PlacedCells.place_of c.args.places.now) (g.P.PlacedCells.team_of c.args.places.now) c.args.rows.now c.args.own c.args.pins.now
    ∙ (rw whole at c.loop-pin.invariant))
