use Rattle.std.proofs.Common.{◌≤◌, length}
use Rattle.std.specs.Prelude.{All}
use Rattle.lf_lex.specs.Reading.{block}
use Rattle.lf_lex.proofs.Turns.{Going}
use Rattle.lf_wire_nets.specs.MacroPins.{pins_statement, IsMacroPin}
use Rattle.lf_wire_nets.proofs.macros.all_pins.Given as goal

abbrev pub invariant-loop : goal.invariant-loop
invariant-loop l = record {
  going : Going (pins_statement l.name) l.pins l.lexer (block (pins_statement l.name) l.initial.pins l.initial.lexer);
  fewer : length l.lexer.tokens ≤ length l.initial.lexer.tokens;
  range : All IsMacroPin l.pins;
}

abbrev pub decreases-loop : goal.decreases-loop
decreases-loop l = length l.lexer.tokens
