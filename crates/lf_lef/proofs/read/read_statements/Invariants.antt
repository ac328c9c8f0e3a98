use Rattle.std.proofs.Common.{length}
use Rattle.lf_lex.specs.Tokens.{tokens_of}
use Rattle.lf_lex.proofs.Turns.{Going}
use Rattle.lf_lef.specs.Contents.{ExtendsLibrary}
use Rattle.lf_lef.specs.Library.{lef_statement, library}
use Rattle.lf_lef.proofs.read.read_statements.Given as goal

abbrev pub invariant-loop : goal.invariant-loop
invariant-loop l = record {
  going : Going lef_statement l.library l.lexer (library l.initial.library (tokens_of l.text));
  kept : ExtendsLibrary l.initial.library l.library;
}

abbrev pub decreases-loop : goal.decreases-loop
decreases-loop l = length l.lexer.tokens
