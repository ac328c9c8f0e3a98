use Rattle.std.proofs.Common.{arith}
use Rattle.std.specs.Prelude.{codes}
use Rattle.std.proofs.lemmas.Result.{err_from_is_err_and}
use Rattle.lf_lex.proofs.Turns.{turn_on, turn_ends, turn_fails}
use Rattle.lf_def.specs.Entries.{entry_or_end}
use Rattle.lf_wire_nets.specs.DesignPins.{design_pin}
use Rattle.lf_wire_nets.proofs.sections.all_pins.Goals as goal

pub returns-in_err-pin_or_end-clause-read : goal.returns-in_err-pin_or_end-clause-read
returns-in_err-pin_or_end-clause-read c =
    let p = err_from_is_err_and c.from_residual.result c.from_residual.ensures.1 in
    rw (p.1, p.2) (turn_fails (entry_or_end (codes "PINS") design_pin) c.in_err-pin_or_end.field-0.0 c.loop.pins c.loop.lexer _ c.loop.invariant.going c.in_err-pin_or_end.ensures.read)

pub loop-preserved : goal.loop-preserved
loop-preserved c = record {
  going = turn_on (entry_or_end (codes "PINS") design_pin) c.loop.pins c.pin_or_end.new.pins c.loop.lexer c.pin_or_end.new.lexer _ c.in_ok-pin_or_end.field-0 c.loop.invariant.going c.if-branch.true c.in_ok-pin_or_end.ensures.read.0 c.in_ok-pin_or_end.ensures.read.1;
  fewer = omega (arith, c.in_ok-pin_or_end.ensures.read.1);
  range = c.pin_or_end.ensures.range;
}

pub returns-clause-read : goal.returns-clause-read
returns-clause-read c = (
  turn_ends (entry_or_end (codes "PINS") design_pin) c.loop.pins c.pin_or_end.new.pins c.loop.lexer c.pin_or_end.new.lexer _ c.in_ok-pin_or_end.field-0 c.loop.invariant.going c.if-branch.false c.in_ok-pin_or_end.ensures.read.0,
  omega (arith, c.in_ok-pin_or_end.ensures.read.1),
)
