use Rattle.std.proofs.Common.{◌≡◌, true, false, take, sym, ◌∙◌, arith}
use Rattle.std.proofs.lemmas.List.{length_push}
use Rattle.lf_def.specs.Kinds.{is_fence}
use Rattle.lf_frame.specs.Teams.{fence_names}
use Rattle.lf_frame.proofs.Named.{fence_next, fence_same}
use Rattle.lf_frame.proofs.ClaimCounts.{all_bounds_seen}
use Rattle.lf_frame.proofs.component_claims.number_fences.Goals as goal
use Rattle.lf_frame.proofs.component_claims.number_fences.Goals.{then-is_fence+in_ok-put_fence, else-is_fence}

pub loop-region-preserved : goal.loop-region-preserved
loop-region-preserved c =
    let item = c.region-item.result in
    let regions = c.args.regions.now in
    let i = c.loop-region.region-index in
    let known = c.loop-region.invariant in
    elim c.if-is_fence.branch [
      | then-is_fence+in_ok-put_fence w ↦
          let fence : is_fence item ≡ true = sym c.is_fence.ensures ∙ w.if-is_fence.true in
          let names = fence_next regions i item c.loop-region-test.true c.region-item.is fence in
          let one = w.in_ok-put_fence.ensures in
          record {
            whole = rw w.numbers-is one.whole;
            within = rw w.count-is (omega (arith, known.within));
            counted = rw (w.count-is, names) (omega (arith, length_push (fence_names (take i regions)) item.name, known.counted));
            numbered = rw (w.numbers-is, names) (one.numbers (fence_names (take i regions)) known.counted known.numbered);
          }
      | else-is_fence w ↦
          let none : is_fence item ≡ false = sym c.is_fence.ensures ∙ w.if-is_fence.false in
          let names = fence_same regions i item c.loop-region-test.true c.region-item.is none in
          record {
            whole = rw w.numbers-is known.whole;
            within = rw w.count-is (omega (arith, known.within));
            counted = rw (w.count-is, names) known.counted;
            numbered = rw (w.numbers-is, names) known.numbered;
          }
    ]

pub returns-clause-numbers : goal.returns-clause-numbers
returns-clause-numbers c = rw (all_bounds_seen c.args.regions.now c.loop-region.region-index (omega arith)) at c.loop-region.invariant.numbered
