use Rattle.std.proofs.Common.{◌≡◌, ◌≤◌, take}
use Rattle.lf_lex.specs.Tokens.{line_feeds}
use Rattle.lf_state_text.proofs.fault.few_line_feeds.Given as goal

abbrev pub invariant-loop-byte : goal.invariant-loop-byte
invariant-loop-byte l = record {
  counted : l.feeds ≡ line_feeds (take l.byte-index l.bytes);
  few : l.feeds ≤ l.byte-index;
}
