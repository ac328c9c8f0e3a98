use Rattle.std.proofs.Common.{◌≡◌, take, arith}
use Rattle.lf_frame.specs.ClaimRefusals.{HasEarlierName}
use Rattle.lf_frame.specs.ComponentNames.{component_names}
use Rattle.lf_frame.proofs.Firsts.{first_found, none_more}
use Rattle.lf_frame.proofs.NameLemmas.{bears_known, known_borne, names_more}
use Rattle.lf_frame.proofs.component_names.first_second_name.Goals as goal

pub loop-number-preserved : goal.loop-number-preserved
loop-number-preserved c =
    let item = c.index-components-number.result in
    let components = c.args.components.now in
    let number = c.loop-number.number in
    let known : c.loop-number.names ≡ component_names (take number components) = c.loop-number.invariant.known in
    let answer = c.in_ok-add_if_new.ensures {u = tt} in
    let fresh = answer.new c.if-not-branch.false in
    let more = names_more components number item c.loop-number-test.true c.index-components-number.is in
    record {
      known = rw (known, c.name.ensures, more) at (answer.added c.if-not-branch.false);
      none = none_more HasEarlierName components number item c.loop-number-test.true c.index-components-number.is
          (λ h. fresh (rw (known, c.name.ensures) (bears_known (take number components) item.name h))) c.loop-number.invariant.none;
    }

pub returns-then-not-branch : goal.returns-then-not-branch
returns-then-not-branch c =
    let item = c.index-components-number.result in
    let components = c.args.components.now in
    let number = c.loop-number.number in
    let known : c.loop-number.names ≡ component_names (take number components) = c.loop-number.invariant.known in
    let answer = c.in_ok-add_if_new.ensures {u = tt} in
    let there = rw (known, c.name.ensures) at (answer.present c.if-not-branch.true) in
    first_found HasEarlierName components number item c.loop-number-test.true c.index-components-number.is (known_borne (take number components) item item.name there) c.loop-number.invariant.none

pub returns : goal.returns
returns c = λ k d within. c.loop-number.invariant.none k d (omega arith)
