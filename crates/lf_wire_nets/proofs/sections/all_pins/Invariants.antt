use Rattle.std.proofs.Common.{◌≤◌, length}
use Rattle.std.specs.Prelude.{All, codes}
use Rattle.lf_lex.specs.Reading.{block}
use Rattle.lf_lex.proofs.Turns.{Going}
use Rattle.lf_def.specs.Entries.{entry_or_end}
use Rattle.lf_wire_nets.specs.DesignPins.{design_pin}
use Rattle.lf_wire_nets.specs.NetRanges.{IsDesignPin}
use Rattle.lf_wire_nets.proofs.sections.all_pins.Given as goal

abbrev pub invariant-loop : goal.invariant-loop
invariant-loop l = record {
  going : Going (entry_or_end (codes "PINS") design_pin) l.pins l.lexer (block (entry_or_end (codes "PINS") design_pin) l.initial.pins l.initial.lexer);
  fewer : length l.lexer.tokens ≤ length l.initial.lexer.tokens;
  range : All IsDesignPin l.pins;
}

abbrev pub decreases-loop : goal.decreases-loop
decreases-loop l = length l.lexer.tokens
