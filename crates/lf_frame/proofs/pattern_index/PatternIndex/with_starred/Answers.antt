use Rattle.std.proofs.Common.{◌⊎◌, ◌∙◌, length, ap, subst, sym, arith}
use Rattle.std.proofs.lemmas.List.{length-set}
use Rattle.lf_frame.specs.Claims.{ClaimsBy, Labels, CountsFences, merged}
use Rattle.lf_frame.specs.ClaimTables.{claim_at}
use Rattle.lf_frame.proofs.Claimed.{reported_put, same_from_put}
use Rattle.lf_frame.proofs.ClaimCounts.{reports_merged}
use Rattle.lf_frame.proofs.pattern_index.PatternIndex.with_starred.Goals as goal

pub loop-number-preserved : goal.loop-number-preserved
loop-number-preserved c =
    let old = c.args.claims in
    let all = c.loop-number.all in
    let n = c.loop-number.number in
    let item = c.index-components-number.result in
    let more = c.claim_on-tried.result in
    let claim = merged (claim_at all n) more in
    let put = c.in_ok-merge.ensures.ok in
    let known = c.loop-number.invariant in
    record {
      long = ap length put ∙ length-set all n claim ∙ known.long;
      same = rw put (same_from_put old all n claim known.same);
      reported = λ literals starred has long reported.
          let tried = rw c.name.ensures at (c.claim_on-tried.ensures starred has) in
          let own : CountsFences (Labels literals item.name) (claim_at old n) = subst (λ e. CountsFences (Labels literals e.name) (claim_at old n)) (sym c.index-components-number.is) (reported n item c.loop-number-test.true) in
          let read : CountsFences (Labels literals item.name) (claim_at all n) = rw (known.same n (omega arith)) own in
          rw put (
          reported_put (λ name fence. Labels literals name fence ⊎ ClaimsBy starred name fence) c.args.components.now all n item claim (omega (arith, known.long, long, c.loop-number-test.true)) c.loop-number-test.true c.index-components-number.is
          (reports_merged (Labels literals item.name) (ClaimsBy starred item.name) (claim_at all n) more read tried) (known.reported literals starred has long reported)
          );
    }

pub returns : goal.returns
returns c = λ literals starred has long reported k d within. c.loop-number.invariant.reported literals starred has long reported k d (omega arith)
