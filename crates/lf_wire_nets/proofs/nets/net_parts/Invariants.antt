use Rattle.std.proofs.Common.{◌≤◌, length}
use Rattle.lf_lex.specs.Reading.{block}
use Rattle.lf_lex.proofs.Turns.{Going}
use Rattle.lf_wire_nets.specs.Nets.{net_statement}
use Rattle.lf_wire_nets.specs.NetRanges.{AreNetParts}
use Rattle.lf_wire_nets.proofs.nets.net_parts.Given as goal

abbrev pub invariant-loop : goal.invariant-loop
invariant-loop l = record {
  going : Going (net_statement l.most) l.parts l.lexer (block (net_statement l.most) l.initial.parts l.initial.lexer);
  fewer : length l.lexer.tokens ≤ length l.initial.lexer.tokens;
  range : AreNetParts l.most l.parts;
}

abbrev pub decreases-loop : goal.decreases-loop
decreases-loop l = length l.lexer.tokens
