use Rattle.std.proofs.Common.{arith}
use Rattle.std.specs.Option.{option_copied}
use Rattle.lf_frame.proofs.Firsts.{none_more}
use Rattle.lf_frame.specs.Conflicts.{ClaimsBut}
use Rattle.lf_frame.proofs.conflicts.first_claiming.Goals as goal

pub loop-number-preserved : goal.loop-number-preserved
loop-number-preserved c =
    none_more (ClaimsBut c.args.regions.now c.args.name.now (option_copied c.args.reported)) c.args.groups.now c.loop-number.number c.index-groups-number.result
    c.loop-number-test.true c.index-groups-number.is (λ h. let t = c.claims_but.ensures.1 h in let f = c.if-claims_but.false in cc) c.loop-number.invariant

pub returns : goal.returns
returns c = λ k d within. c.loop-number.invariant k d (omega arith)
