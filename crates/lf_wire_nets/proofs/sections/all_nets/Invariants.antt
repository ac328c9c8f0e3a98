use Rattle.std.proofs.Common.{◌≤◌, length}
use Rattle.lf_lex.specs.Reading.{block}
use Rattle.lf_lex.proofs.Turns.{Going}
use Rattle.lf_wire_nets.specs.NetTexts.{net_or_end}
use Rattle.lf_wire_nets.specs.NetRanges.{AreDesignNets}
use Rattle.lf_wire_nets.proofs.sections.all_nets.Given as goal

abbrev pub invariant-loop : goal.invariant-loop
invariant-loop l = record {
  going : Going net_or_end l.nets l.lexer (block net_or_end l.initial.nets l.initial.lexer);
  fewer : length l.lexer.tokens ≤ length l.initial.lexer.tokens;
  range : AreDesignNets l.nets;
}

abbrev pub decreases-loop : goal.decreases-loop
decreases-loop l = length l.lexer.tokens
