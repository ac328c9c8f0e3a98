use Rattle.std.proofs.Common.{◌≡◌, ◌∙◌, None, Some, ap, refl, subst}
use Rattle.std.specs.Option.{option_map}
use Rattle.lf_floorplan.specs.declared.frame.Frame.{Frame}
use Rattle.lf_floorplan.specs.declared.macros.Macro.{Macro}
use Rattle.lf_floorplan.specs.Boxes.{macro_of}
use Rattle.lf_rules.specs.declared.rule.Rule.TheVariants.{Overlap}
use Rattle.lf_rules.specs.Legality.{IsFirstBroken, padded_box, candidate_of}
use Rattle.lf_rules.specs.Legalizer.{IsVerdict}
use Rattle.lf_rules.specs.Team.{boxes_beside}
use Rattle.lf_rules.proofs.RuleLemmas.{frame_broken}
use Rattle.lf_reports.proofs.OverlapLemmas.{overlapped_in_tree}
use Rattle.lf_reports.proofs.verdicts.broken_at.Goals as goal

pub returns-in-Some : goal.returns-in-Some
returns-in-Some c = λ cells same.
    let f = c.args.plan.now in
    let others = boxes_beside f cells c.args.own in
    let mac : c.macro_in-mac.result.now ≡ macro_of f c.args.cell.now.mac =
    c.macro_in-mac.ensures.mac ∙ ap {B = Macro} (λ (h : Frame). macro_of h c.args.cell.now.mac) c.frame-frame.ensures in
    subst (λ (m : Macro). IsFirstBroken (candidate_of f c.args.cell.now.team c.args.padding.sites m c.args.place.now others) record { rule = c.in-Some.rule; other = None }) mac
    (frame_broken (candidate_of f c.args.cell.now.team c.args.padding.sites c.macro_in-mac.result.now c.args.place.now others) c.broken_frame_rule.result c.in-Some.rule c.in-Some.is
    (c.broken_frame_rule.ensures c.args.padding.sites others))

pub returns : goal.returns
returns c = λ cells same.
    let f = c.args.plan.now in
    let others = boxes_beside f cells c.args.own in
    let team = c.args.cell.now.team in
    let m = c.macro_in-mac.result.now in
    let mac : m ≡ macro_of f c.args.cell.now.mac = c.macro_in-mac.ensures.mac ∙ ap {B = Macro} (λ (h : Frame). macro_of h c.args.cell.now.mac) c.frame-frame.ensures in
    let rect = subst (λ (h : Frame). c.padded_box.result ≡ padded_box (candidate_of h team c.args.padding.sites m c.args.place.now others)) c.frame-frame.ensures c.padded_box.ensures in
    rw c.overlap_of.ensures
    (subst (λ (n : Macro). IsVerdict (candidate_of f team c.args.padding.sites n c.args.place.now others) (option_map (λ own. record { rule = Overlap; other = Some own }) c.least_overlapping.result)) mac
    (overlapped_in_tree (candidate_of f team c.args.padding.sites m c.args.place.now others) cells c.args.own c.args.boxes.now c.padded_box.result c.broken_frame_rule.result c.least_overlapping.result refl rect
    c.in_default.is (c.broken_frame_rule.ensures c.args.padding.sites others) same c.least_overlapping.ensures))
