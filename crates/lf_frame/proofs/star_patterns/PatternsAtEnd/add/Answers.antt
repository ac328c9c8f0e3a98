use Rattle.lf_frame.specs.declared.star_patterns.FencePattern.{FencePattern}
use Rattle.lf_frame.specs.Claims.{AddsUnderKey}
use Rattle.lf_frame.proofs.KeyLemmas.{has_one_more}
use Rattle.lf_frame.proofs.star_patterns.PatternsAtEnd.add.Goals as goal

pub returns : goal.returns
returns c = λ bounds h.
    let old = c.args.self.now in
    let mid = c.keep.new.self in
    let key = c.key_at-key.result.now in
    let bound : FencePattern = record { pattern = c.args.pattern.now; fence = c.args.fence } in
    let keeps : AddsUnderKey old mid key bound = rw c.in_ok-pattern.ensures at (c.in_ok-keep.ensures {u = tt} h.whole) in
    has_one_more old mid key bound keeps c.key_at-key.ensures c.add_length.new.lengths (c.in_ok-add_length.ensures {u = tt}) bounds h
