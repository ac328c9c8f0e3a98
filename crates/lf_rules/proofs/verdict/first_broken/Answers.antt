use Rattle.lf_rules.specs.Legality.{candidate_of}
use Rattle.lf_rules.proofs.RuleLemmas.{frame_broken, overlapped_verdict}
use Rattle.lf_rules.proofs.verdict.first_broken.Goals as goal

pub returns-in-Some : goal.returns-in-Some
returns-in-Some c =
    frame_broken (candidate_of c.args.frame.now c.args.team c.args.padding.sites c.args.mac.now c.args.place.now c.args.others.now) c.broken_frame_rule.result c.in-Some.rule c.in-Some.is
    (c.broken_frame_rule.ensures c.args.padding.sites c.args.others.now)

pub returns : goal.returns
returns c =
    rw c.overlap_of.ensures
    (overlapped_verdict (candidate_of c.args.frame.now c.args.team c.args.padding.sites c.args.mac.now c.args.place.now c.args.others.now) c.padded_box.result c.broken_frame_rule.result c.first_overlapping.result
    c.padded_box.ensures c.in_default.is (c.broken_frame_rule.ensures c.args.padding.sites c.args.others.now) c.first_overlapping.ensures)
