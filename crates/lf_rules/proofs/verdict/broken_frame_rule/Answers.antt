use Rattle.std.proofs.Common.{refl}
use Rattle.lf_rules.proofs.WalkLemmas.{clear_first, fence_first, orient_first, rail_first, row_first, rows_kept, first_are_placed, is_in_place, all_kept}
use Rattle.lf_rules.proofs.verdict.broken_frame_rule.Goals as goal

pub returns-in_default-bottom_row : goal.returns-in_default-bottom_row
returns-in_default-bottom_row g c = λ padding others.
    row_first c.frame-frame.result.now (g.N.FrameQuery.of c.args.near.now) c.frame-frame.ensures c.args.team c.args.mac.now c.args.place.now padding others c.box_with_points-rect.result
    c.box_with_points-rect.ensures.is c.in-Some.height c.in-Some.ensures c.in_default-bottom_row.ensures

pub returns-then-not-is_supported : goal.returns-then-not-is_supported
returns-then-not-is_supported g c = λ padding others.
    first_are_placed c.frame-frame.result.now (g.N.FrameQuery.of c.args.near.now) c.frame-frame.ensures c.args.team c.args.mac.now c.args.place.now padding others c.box_with_points-rect.result
    c.box_with_points-rect.ensures.is c.box_with_points-rect.ensures.solid c.in-Some.height c.in-Some-bottom_row.bottom.now c.in-Some.ensures c.in-Some-bottom_row.ensures
    (λ s. let t = c.if-not-is_supported.ensures.1 s in cc)

pub returns-then-not-is_oriented : goal.returns-then-not-is_oriented
returns-then-not-is_oriented g c = λ padding others.
    orient_first c.frame-frame.result.now (g.N.FrameQuery.of c.args.near.now) c.frame-frame.ensures c.args.team c.args.mac.now c.args.place.now padding others c.box_with_points-rect.result
    c.box_with_points-rect.ensures.is c.box_with_points-rect.ensures.solid c.in-Some.height c.in-Some-bottom_row.bottom.now c.in-Some.ensures c.in-Some-bottom_row.ensures
    (c.if-not-is_supported.ensures.0 refl) (λ s. let t = c.if-not-is_oriented.ensures.1 s in cc)

pub returns-then-not-is_on_rail : goal.returns-then-not-is_on_rail
returns-then-not-is_on_rail g c = λ padding others.
    rail_first c.frame-frame.result.now (g.N.FrameQuery.of c.args.near.now) c.frame-frame.ensures c.args.team c.args.mac.now c.args.place.now padding others c.box_with_points-rect.result
    c.box_with_points-rect.ensures.is c.box_with_points-rect.ensures.solid c.in-Some.height c.in-Some-bottom_row.bottom.now c.in-Some.ensures c.in-Some-bottom_row.ensures
    (c.if-not-is_supported.ensures.0 refl) (c.if-not-is_oriented.ensures.0 refl) (λ s. let t = c.if-not-is_on_rail.ensures.1 s in cc)

pub stays_in_ground-requires-clause-is_in_place : goal.stays_in_ground-requires-clause-is_in_place
stays_in_ground-requires-clause-is_in_place g c =
    is_in_place c.frame-frame.result.now (g.N.FrameQuery.of c.args.near.now) c.frame-frame.ensures c.args.team c.args.mac.now c.args.place.now c.box_with_points-rect.result
    c.box_with_points-rect.ensures.is c.box_with_points-rect.ensures.solid c.in-Some.height c.in-Some-bottom_row.bottom.now c.in-Some.ensures c.in-Some-bottom_row.ensures
    (c.if-not-is_supported.ensures.0 refl) (c.if-not-is_oriented.ensures.0 refl) (c.if-not-is_on_rail.ensures.0 refl)

pub returns-then-not-stays_in_ground : goal.returns-then-not-stays_in_ground
returns-then-not-stays_in_ground g c = λ padding others.
    fence_first c.frame-frame.result.now (g.N.FrameQuery.of c.args.near.now) c.frame-frame.ensures c.args.team c.args.mac.now c.args.place.now padding others c.box_with_points-rect.result
    c.box_with_points-rect.ensures.is
    (rows_kept c.frame-frame.result.now (g.N.FrameQuery.of c.args.near.now) c.frame-frame.ensures c.args.team c.args.mac.now c.args.place.now padding others c.box_with_points-rect.result
    c.box_with_points-rect.ensures.is c.box_with_points-rect.ensures.solid c.in-Some.height c.in-Some-bottom_row.bottom.now c.in-Some.ensures c.in-Some-bottom_row.ensures
    (c.if-not-is_supported.ensures.0 refl) (c.if-not-is_oriented.ensures.0 refl) (c.if-not-is_on_rail.ensures.0 refl))
    (λ s. let t = c.if-not-stays_in_ground.ensures.1 s in cc)

pub is_clear-requires-clause-is_in_place : goal.is_clear-requires-clause-is_in_place
is_clear-requires-clause-is_in_place g c =
    is_in_place c.frame-frame.result.now (g.N.FrameQuery.of c.args.near.now) c.frame-frame.ensures c.args.team c.args.mac.now c.args.place.now c.box_with_points-rect.result
    c.box_with_points-rect.ensures.is c.box_with_points-rect.ensures.solid c.in-Some.height c.in-Some-bottom_row.bottom.now c.in-Some.ensures c.in-Some-bottom_row.ensures
    (c.if-not-is_supported.ensures.0 refl) (c.if-not-is_oriented.ensures.0 refl) (c.if-not-is_on_rail.ensures.0 refl)

pub returns-then-not-is_clear : goal.returns-then-not-is_clear
returns-then-not-is_clear g c = λ padding others.
    clear_first c.frame-frame.result.now (g.N.FrameQuery.of c.args.near.now) c.frame-frame.ensures c.args.team c.args.mac.now c.args.place.now padding others c.box_with_points-rect.result
    c.box_with_points-rect.ensures.is
    (rows_kept c.frame-frame.result.now (g.N.FrameQuery.of c.args.near.now) c.frame-frame.ensures c.args.team c.args.mac.now c.args.place.now padding others c.box_with_points-rect.result
    c.box_with_points-rect.ensures.is c.box_with_points-rect.ensures.solid c.in-Some.height c.in-Some-bottom_row.bottom.now c.in-Some.ensures c.in-Some-bottom_row.ensures
    (c.if-not-is_supported.ensures.0 refl) (c.if-not-is_oriented.ensures.0 refl) (c.if-not-is_on_rail.ensures.0 refl))
    (c.if-not-stays_in_ground.ensures.0 refl) (λ s. let t = c.if-not-is_clear.ensures.1 s in cc)

pub returns : goal.returns
returns g c = λ padding others.
    all_kept c.frame-frame.result.now (g.N.FrameQuery.of c.args.near.now) c.frame-frame.ensures c.args.team c.args.mac.now c.args.place.now padding others c.box_with_points-rect.result
    c.box_with_points-rect.ensures.is
    (rows_kept c.frame-frame.result.now (g.N.FrameQuery.of c.args.near.now) c.frame-frame.ensures c.args.team c.args.mac.now c.args.place.now padding others c.box_with_points-rect.result
    c.box_with_points-rect.ensures.is c.box_with_points-rect.ensures.solid c.in-Some.height c.in-Some-bottom_row.bottom.now c.in-Some.ensures c.in-Some-bottom_row.ensures
    (c.if-not-is_supported.ensures.0 refl) (c.if-not-is_oriented.ensures.0 refl) (c.if-not-is_on_rail.ensures.0 refl))
    (c.if-not-stays_in_ground.ensures.0 refl) (c.if-not-is_clear.ensures.0 refl)
