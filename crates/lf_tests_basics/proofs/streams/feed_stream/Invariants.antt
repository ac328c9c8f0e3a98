use Rattle.std.proofs.Common.{◌≡◌, ◌≤◌, ◌-◌, ◌&&◌, ℕ, List, Option, drop, length}
use Rattle.std.specs.List.{list_all}
use Rattle.std.specs.Option.{is_some}
use Rattle.lf_proto.specs.Feeds.{TakesBytes}
use Rattle.lf_proto.specs.Framing.{Framing}
use Rattle.lf_tests_basics.proofs.streams.feed_stream.Given as goal

abbrev pub invariant-loop-at : goal.invariant-loop-at
invariant-loop-at l = record {
  inside : l.at ≤ length l.stream;
  goes : (lines : List (Option (List ℕ))) (new : Framing) → TakesBytes l.framer (drop l.at l.stream) lines new
      → (all : List (Option (List ℕ))) × TakesBytes l.fn.framer l.stream all new × (list_all is_some all ≡ (l.within && list_all is_some lines));
}

abbrev pub decreases-loop-at : goal.decreases-loop-at
decreases-loop-at l = length l.stream - l.at
