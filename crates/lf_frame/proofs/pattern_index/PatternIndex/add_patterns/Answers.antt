use Rattle.std.proofs.Common.{◌≡◌, ◌+◌, [], ◌∷◌, ◌++◌, Some, take, sym, ap, ◌∙◌, arith}
use Rattle.std.proofs.lemmas.List.{map-append}
use Rattle.lf_frame.specs.Claims.{bound_to}
use Rattle.lf_frame.proofs.ClaimCounts.{one_bound_more, all_bounds_seen}
use Rattle.lf_frame.proofs.Indexes.{extends_twice, extends_by_none}
use Rattle.lf_frame.proofs.pattern_index.PatternIndex.add_patterns.Goals as goal

pub loop-pattern-init : goal.loop-pattern-init
loop-pattern-init c = extends_by_none c.args.self.now

pub loop-pattern-preserved : goal.loop-pattern-preserved
loop-pattern-preserved c =
    let patterns = c.args.patterns.now in
    let number = c.loop-pattern.pattern-index in
    let item = c.pattern-item.result in
    let known = c.loop-pattern.invariant in
    let more = one_bound_more patterns number item c.loop-pattern-test.true c.pattern-item.is in
    let bounds : bound_to (Some c.args.fence) (take (number + 1) patterns) ≡ bound_to (Some c.args.fence) (take number patterns) ++ record { pattern = item; fence = c.args.fence } ∷ [] =
    ap (bound_to (Some c.args.fence)) (sym more) ∙ map-append (λ p. record { pattern = p; fence = c.args.fence }) (take number patterns) (item ∷ []) in
    rw bounds (
    extends_twice c.args.self.now c.loop-pattern.self c.add.new.self (bound_to (Some c.args.fence) (take number patterns)) (record { pattern = item; fence = c.args.fence } ∷ []) known (rw c.as_bytes.ensures at c.in_ok-add.ensures)
    )

pub returns : goal.returns
returns c = rw (all_bounds_seen c.args.patterns.now c.loop-pattern.pattern-index (omega arith)) at c.loop-pattern.invariant
