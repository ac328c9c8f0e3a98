use Rattle.std.proofs.Common.{length}
use Rattle.std.specs.Prelude.{All}
use Rattle.lf_lex.specs.Tokens.{tokens_of}
use Rattle.lf_lex.specs.Reading.{block}
use Rattle.lf_lex.proofs.Turns.{Going}
use Rattle.lf_wire_nets.specs.MacroPins.{HasMacroPins}
use Rattle.lf_wire_nets.specs.LibraryPins.{macros_statement}
use Rattle.lf_wire_nets.proofs.pins_reader.read_statements.Given as goal

abbrev pub invariant-loop : goal.invariant-loop
invariant-loop l = record {
  going : Going macros_statement l.macros l.lexer (block macros_statement l.initial.macros (tokens_of l.text));
  range : All HasMacroPins l.macros;
}

abbrev pub decreases-loop : goal.decreases-loop
decreases-loop l = length l.lexer.tokens
