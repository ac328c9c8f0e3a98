use Rattle.std.proofs.Common.{length}
use Rattle.lf_lex.specs.Tokens.{tokens_of}
use Rattle.lf_lex.specs.Reading.{block}
use Rattle.lf_lex.proofs.Turns.{Going}
use Rattle.lf_wire_nets.specs.NetTexts.{nets_statement, no_nets}
use Rattle.lf_wire_nets.specs.NetRanges.{AreDesignNets}
use Rattle.lf_wire_nets.proofs.nets_reader.read_statements.Given as goal

abbrev pub invariant-loop-nets : goal.invariant-loop-nets
invariant-loop-nets l = record {
  going : Going nets_statement l.nets l.lexer (block nets_statement no_nets (tokens_of l.text));
  range : AreDesignNets l.nets;
}

abbrev pub decreases-loop-nets : goal.decreases-loop-nets
decreases-loop-nets l = length l.lexer.tokens
