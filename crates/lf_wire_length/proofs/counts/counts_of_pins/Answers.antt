use Rattle.std.proofs.Common.{◌≡◌, ◌∙◌, ap, arith, fold, sym, take}
use Rattle.std.proofs.lemmas.List.{take_all}
use Rattle.lf_wire_length.specs.Counts.{counts_after, no_pins}
use Rattle.lf_wire_length.proofs.TeamLemmas.{counts_mapped}
use Rattle.lf_wire_length.proofs.counts.counts_of_pins.Goals as goal

pub returns-clause-is : goal.returns-clause-is
returns-clause-is g c =
    let place = g.P.PlacedCells.place_of c.args.places.now in
    let all : take c.loop-at.at c.args.pins.now ≡ c.args.pins.now = take_all _ _ (omega (arith, c.loop-at-test.false)) in
    c.loop-at.invariant.so_far ∙ ap (fold (counts_after place c.args.rows.now) no_pins) all ∙ sym (counts_mapped place c.args.rows.now c.args.pins.now)
