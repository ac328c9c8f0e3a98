use Rattle.lf_frame.specs.Claims.{all_bounds}
use Rattle.lf_frame.proofs.Claimed.{claims_made}
use Rattle.lf_frame.proofs.component_claims.claim_table.Goals as goal

pub returns-in-Some : goal.returns-in-Some
returns-in-Some c =
    let numbers = c.in_ok-numbers.ensures {u = tt} in
    let index = c.in_ok-index.ensures c.args.regions.now numbers.numbers in
    let reported = rw c.in-Some.is at (c.in_ok-claims.ensures (all_bounds c.args.regions.now c.args.groups.now) index) in
    record { second = reported.0; claims = λ none. claims_made c.args.regions.now c.args.groups.now c.args.components.now c.in-Some.claims reported.1; ground = numbers.ground }

pub returns : goal.returns
returns c =
    let numbers = c.in_ok-numbers.ensures {u = tt} in
    let index = c.in_ok-index.ensures c.args.regions.now numbers.numbers in
    let never = rw c.in_default.is at (c.in_ok-claims.ensures (all_bounds c.args.regions.now c.args.groups.now) index) in
    record { second = c.in_ok-first_second_name.ensures {u = tt}; claims = λ none. absurd (never none); ground = numbers.ground }
