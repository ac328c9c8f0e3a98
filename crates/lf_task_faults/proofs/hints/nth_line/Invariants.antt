use Rattle.std.proofs.Common.{◌≡◌, length}
use Rattle.lf_lex.specs.Tokens.{tokens_of}
use Rattle.lf_task_faults.specs.Hints.{nth_line}
use Rattle.lf_task_faults.proofs.hints.nth_line.Given as goal

-- The search for the word continues among the remaining tokens.
abbrev pub invariant-loop-token : goal.invariant-loop-token
invariant-loop-token l = record {
  looked_for : nth_line l.word l.left l.lexer.tokens ≡ nth_line l.word l.passed (tokens_of l.text).tokens;
}

abbrev pub decreases-loop-token : goal.decreases-loop-token
decreases-loop-token l = length l.lexer.tokens
