use Rattle.std.proofs.Common.{◌≡◌, ◌∙◌, List, ap, get_or, length, arith}
use Rattle.std.proofs.lemmas.List.{length-set, length-replicate, get_or_default}
use Rattle.lf_names.specs.declared.partitioned.Match.{Match}
use Rattle.lf_frame.specs.declared.claim.Claim.{Claim}
use Rattle.lf_frame.specs.ClaimTables.{claim_at}
use Rattle.lf_frame.proofs.Claimed.{no_match_reported, matches_reported_more, all_unclaimed}
use Rattle.lf_frame.proofs.ClaimCounts.{all_bounds_seen}
use Rattle.lf_frame.proofs.claims.claims_by_match.Goals as goal

pub loop-found-init : goal.loop-found-init
loop-found-init c =
    let count = c.args.count in
    let is = c.in_ok-claims.ensures {u = tt} in
    record {
      long = ap length is ∙ length-replicate count _;
      reported = no_match_reported count c.in_ok-claims.claims (λ number. ap (λ (claims : List Claim). claim_at claims number) is ∙ all_unclaimed count number);
    }

pub loop-found-preserved : goal.loop-found-preserved
loop-found-preserved c =
    let claims = c.loop-found.claims in
    let matches = c.args.matches.now in
    let i = c.loop-found.found-index in
    let no : Match = record { own = 0; requested = 0 } in
    let item : Match = get_or matches i no in
    let is : item ≡ get_or matches i item = get_or_default matches i no item c.loop-found-test.true in
    let put = c.in_ok-merge.ensures.ok in
    record {
      long = ap length put ∙ length-set claims item.own _ ∙ c.loop-found.invariant.long;
      reported = rw put (matches_reported_more matches i item c.args.count claims c.loop-found-test.true is c.loop-found.invariant.long c.loop-found.invariant.reported);
    }

pub returns-clause-reported : goal.returns-clause-reported
returns-clause-reported c = rw (all_bounds_seen c.args.matches.now c.loop-found.found-index (omega arith)) at c.loop-found.invariant.reported
