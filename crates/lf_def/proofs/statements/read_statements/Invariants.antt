use Rattle.std.proofs.Common.{length}
use Rattle.lf_lex.specs.Tokens.{tokens_of}
use Rattle.lf_lex.specs.Reading.{block}
use Rattle.lf_lex.proofs.Turns.{Going}
use Rattle.lf_def.specs.Document.{def_statement, no_parts}
use Rattle.lf_def.specs.Ranges.{AreParts}
use Rattle.lf_def.proofs.statements.read_statements.Given as goal

abbrev pub invariant-loop-parts : goal.invariant-loop-parts
invariant-loop-parts l = record {
  going : Going def_statement l.parts l.lexer (block def_statement no_parts (tokens_of l.text));
  range : AreParts l.parts;
}

abbrev pub decreases-loop-parts : goal.decreases-loop-parts
decreases-loop-parts l = length l.lexer.tokens
