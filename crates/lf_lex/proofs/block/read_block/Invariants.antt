use Rattle.std.proofs.Common.{◌≤◌, length}
use Rattle.lf_lex.specs.Reading as reading
use Rattle.lf_lex.proofs.Turns.{Going}
use Rattle.lf_lex.proofs.block.read_block.Given as goal

abbrev pub invariant-loop : goal.invariant-loop
invariant-loop g l = record {
  going : Going (g.B.Block.statement l.block) l.state l.lexer (reading.block (g.B.Block.statement l.block) l.initial.state l.initial.lexer);
  fewer : length l.lexer.tokens ≤ length l.initial.lexer.tokens;
  kept : g.B.Block.keeps l.block l.state;
}

abbrev pub decreases-loop : goal.decreases-loop
decreases-loop g l = length l.lexer.tokens
