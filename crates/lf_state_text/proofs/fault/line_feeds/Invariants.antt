use Rattle.std.proofs.Common.{◌≡◌, ◌+◌, length}
use Rattle.lf_lex.specs.Tokens.{line_feeds}
use Rattle.lf_state_text.proofs.fault.line_feeds.Given as goal

-- the line feeds so far and those of the rest are all line feeds
abbrev pub invariant-loop-rest : goal.invariant-loop-rest
invariant-loop-rest l = l.feeds + line_feeds l.rest ≡ line_feeds l.text

abbrev pub decreases-loop-rest : goal.decreases-loop-rest
decreases-loop-rest l = length l.rest
