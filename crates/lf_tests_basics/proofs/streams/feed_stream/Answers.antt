use Rattle.std.proofs.Common.{◌∙◌, ◌++◌, ◌&&◌, ap, sym}
use Rattle.std.specs.Option.{is_some}
use Rattle.std.specs.List.{list_all}
use Rattle.lf_proto.specs.Feeds.{given_line}
use Rattle.lf_tests_basics.proofs.Feeding.{fed_all, feeds_on, inside, of_the_rest, within_more}
use Rattle.lf_tests_basics.proofs.streams.feed_stream.Goals as goal

pub loop-at-preserved : goal.loop-at-preserved
loop-at-preserved c =
    let front = of_the_rest c.args.stream.now c.front.result.now c.loop-at.at c.args.most c.front.ensures in
    record {
      inside = inside c.args.stream.now c.front.result.now c.loop-at.at c.args.most c.feed_piece-fed.result.used front c.loop-at.invariant.inside c.feed_piece-fed.ensures.within;
      goes = λ lines new takes.
          let (all, whole, is) = c.loop-at.invariant.goes (given_line c.feed_piece-fed.result.got c.feed_piece-fed.new.framer.line ++ lines) new
          (feeds_on c.loop-at.framer c.feed_piece-fed.new.framer new c.args.stream.now c.front.result.now c.loop-at.at c.args.most c.feed_piece-fed.result lines front c.feed_piece-fed.ensures.fed c.feed_piece-fed.ensures.within takes) in
          (all, whole, is ∙ (within_more c.loop-at.within c.is_within.result c.feed_piece-fed.result.got c.feed_piece-fed.new.framer.line lines (c.is_within.ensures c.feed_piece-fed.new.framer.line) ∙ ap (λ b. b && list_all is_some lines) (sym c.both-within.ensures)));
    }

pub returns : goal.returns
returns c = fed_all c.loop-at.framer c.args.framer.now c.args.stream.now c.loop-at.at c.loop-at.within c.loop-at-test.false c.loop-at.invariant.goes
