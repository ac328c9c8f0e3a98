use Rattle.std.proofs.Common.{ℕ, List, Option, [], set, subst, sym, ◌∙◌}
use Rattle.std.proofs.lemmas.Result.{on_ok_weaker}
use Rattle.lf_units.specs.declared.geometry.Rect.{Rect}
use Rattle.lf_occupancy.specs.Views.{Bounds, KeepsCapacities, Occupied}
use Rattle.lf_occupancy.specs.Strips.{MarksBoxes, Marked, widened_strips, with_boxes, capacities_in}
use Rattle.lf_occupancy.specs.StripCounting.{AreShifted, IsHigher}
use Rattle.lf_occupancy.proofs.Reaching.{mark_lists_kept, rooms_kept}
use Rattle.lf_occupancy.proofs.Tallying.{bounds_beside, bounds_other, bounds_own, bounds_shifted}
use Rattle.lf_occupancy.proofs.occupancy.Occupancy.reserve_counted.Goals as goal

pub returns-clause-own : goal.returns-clause-own
returns-clause-own c = λ boxes own is bounds.
    let o = c.self.inside in
    let team = c.args.team in
    let held : Occupied = with_boxes record { index = o.index; site = o.site; mark_lists = o.mark_lists.items } [] in
    let was : Bounds held team boxes c.args.counts.now =
    subst (λ (m : Marked). Bounds (with_boxes m []) team boxes c.args.counts.now) (sym c.self.view_is) bounds in
    let before : Bounds held team boxes c.counts.inside.counts.items = subst (λ (ns : List ℕ). Bounds held team boxes ns) (sym c.counts.view_is) was in
    on_ok_weaker c.raise.result
    (λ (higher : IsHigher (widened_strips o.site o.index.strips) team c.args.to.now c.lower.new.counts.items c.raise.new.counts.items).
    bounds_own held team boxes own c.args.from.now c.args.to.now c.counts.inside.counts.items c.lower.new.counts.items c.raise.new.counts.items is
    c.lower.ensures higher before) c.raise.ensures.more

pub returns-clause-others : goal.returns-clause-others
returns-clause-others c = λ boxes other differ bounds.
    let o = c.self.inside in
    let team = c.args.team in
    let held : Occupied = with_boxes record { index = o.index; site = o.site; mark_lists = o.mark_lists.items } [] in
    let was : Bounds held other boxes c.args.counts.now =
    subst (λ (m : Marked). Bounds (with_boxes m []) other boxes c.args.counts.now) (sym c.self.view_is) bounds in
    let before : Bounds held other boxes c.counts.inside.counts.items = subst (λ (ns : List ℕ). Bounds held other boxes ns) (sym c.counts.view_is) was in
    on_ok_weaker c.raise.result
    (λ (higher : IsHigher (widened_strips o.site o.index.strips) team c.args.to.now c.lower.new.counts.items c.raise.new.counts.items).
    bounds_other held team other boxes c.args.from.now c.args.to.now c.counts.inside.counts.items c.lower.new.counts.items c.raise.new.counts.items differ
    c.lower.ensures higher before) c.raise.ensures.more

pub returns-clause-holds : goal.returns-clause-holds
returns-clause-holds c = λ boxes holds.
    let o = c.self.inside in
    mark_lists_kept (widened_strips o.site o.index.strips) boxes o.mark_lists.items c.raise.new.mark_lists.items c.raise.ensures.kept
    (subst (λ (m : Marked). MarksBoxes m boxes) (sym c.self.view_is) holds)

pub returns-clause-rooms : goal.returns-clause-rooms
returns-clause-rooms c =
    subst (λ (m : Marked). KeepsCapacities (capacities_in m.mark_lists) (capacities_in c.raise.new.mark_lists.items)) c.self.view_is
    (rooms_kept c.self.inside.mark_lists.items c.raise.new.mark_lists.items c.raise.ensures.kept)

pub returns-in-Some-clause-own : goal.returns-in-Some-clause-own
returns-in-Some-clause-own c = λ boxes own is bounds.
    let o = c.self.inside in
    let team = c.args.team in
    let shift = c.in-Some.shift in
    let held : Occupied = with_boxes record { index = o.index; site = o.site; mark_lists = o.mark_lists.items } [] in
    let was : Bounds held team boxes c.args.counts.now =
    subst (λ (m : Marked). Bounds (with_boxes m []) team boxes c.args.counts.now) (sym c.self.view_is) bounds in
    let before : Bounds held team boxes c.counts.inside.counts.items = subst (λ (ns : List ℕ). Bounds held team boxes ns) (sym c.counts.view_is) was in
    on_ok_weaker c.shift_rows.result
    (λ (shifted : AreShifted (widened_strips o.site o.index.strips) team shift c.counts.inside.counts.items c.shift_rows.new.counts.items).
    subst (λ (to : Option Rect). Bounds held team (set boxes own to) c.shift_rows.new.counts.items) (sym c.in-Some.ensures.to_is)
    (bounds_shifted held team boxes own shift c.counts.inside.counts.items c.shift_rows.new.counts.items (is ∙ c.in-Some.ensures.from_is) shifted before))
    c.shift_rows.ensures.shifted

pub returns-in-Some-clause-others : goal.returns-in-Some-clause-others
returns-in-Some-clause-others c = λ boxes other differ bounds.
    let o = c.self.inside in
    let team = c.args.team in
    let shift = c.in-Some.shift in
    let held : Occupied = with_boxes record { index = o.index; site = o.site; mark_lists = o.mark_lists.items } [] in
    let was : Bounds held other boxes c.args.counts.now =
    subst (λ (m : Marked). Bounds (with_boxes m []) other boxes c.args.counts.now) (sym c.self.view_is) bounds in
    let before : Bounds held other boxes c.counts.inside.counts.items = subst (λ (ns : List ℕ). Bounds held other boxes ns) (sym c.counts.view_is) was in
    on_ok_weaker c.shift_rows.result
    (λ (shifted : AreShifted (widened_strips o.site o.index.strips) team shift c.counts.inside.counts.items c.shift_rows.new.counts.items).
    bounds_beside held team other boxes shift c.counts.inside.counts.items c.shift_rows.new.counts.items differ shifted before) c.shift_rows.ensures.shifted

pub returns-in-Some-clause-holds : goal.returns-in-Some-clause-holds
returns-in-Some-clause-holds c = λ boxes holds.
    let o = c.self.inside in
    mark_lists_kept (widened_strips o.site o.index.strips) boxes o.mark_lists.items c.shift_rows.new.mark_lists.items c.shift_rows.ensures.kept
    (subst (λ (m : Marked). MarksBoxes m boxes) (sym c.self.view_is) holds)

pub returns-in-Some-clause-rooms : goal.returns-in-Some-clause-rooms
returns-in-Some-clause-rooms c =
    subst (λ (m : Marked). KeepsCapacities (capacities_in m.mark_lists) (capacities_in c.shift_rows.new.mark_lists.items)) c.self.view_is
    (rooms_kept c.self.inside.mark_lists.items c.shift_rows.new.mark_lists.items c.shift_rows.ensures.kept)
