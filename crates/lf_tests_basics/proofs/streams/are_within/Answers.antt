use Rattle.std.proofs.Common.{◌∙◌}
use Rattle.lf_tests_basics.proofs.Feeding.{all_within}
use Rattle.lf_tests_basics.proofs.streams.are_within.Goals as goal

pub returns : goal.returns
returns c =
    let (lines, takes, is) = c.feed_stream-within.ensures in
    c.both.ensures ∙ all_within _ _ c.args.stream.now lines _ _ is (c.is_within.ensures c.finish-last.new.self.line) (c.framing_keeps_lines.ensures _ _ c.finish-last.new.self c.args.stream.now lines _ c.in_ok-framer.ensures takes c.finish-last.ensures.given)
