use Rattle.std.proofs.Common.{Some, [], ap, arith, sym, ◌∙◌}
use Rattle.lf_wire_length.specs.Stored.{pin_stored}
use Rattle.lf_wire_length.proofs.StoredLemmas.{no_pin_mapped, pin_mapped}
use Rattle.lf_wire_length.proofs.measure.pin_at.Goals as goal

pub returns-in-Some : goal.returns-in-Some
returns-in-Some c = λ rows.
    ap Some (c.pin_row_of.ensures rows ∙ ap (pin_stored rows) c.in-Some.ensures.lookup.1)
    ∙ sym (pin_mapped (pin_stored rows) c.args.starts.now c.args.pins.now c.pins_of.result.now c.args.net c.args.at [] c.in-Some.pin.now c.requires c.pins_of.ensures (grind (arith, c.in-Some.ensures.lookup.0)))

pub returns-in-None : goal.returns-in-None
returns-in-None c = λ rows.
    sym (no_pin_mapped (pin_stored rows) c.args.starts.now c.args.pins.now c.pins_of.result.now c.args.net c.args.at [] c.requires c.pins_of.ensures (grind (arith, c.in-None.ensures.lookup.0)))
