use Rattle.std.proofs.Common.{◌≡◌, ℕ, [], List, ap, get_or, map, subst, sym, vec_len, ◌∙◌}
use Rattle.lf_occupancy.specs.declared.strip_marks.StripMarks.{StripMarks}
use Rattle.lf_occupancy.specs.Views.{Bounds, KeepsCapacities, Occupied}
use Rattle.lf_occupancy.specs.Strips.{MarksBoxes, Marked, with_boxes, capacities_in}
use Rattle.lf_occupancy.proofs.Tallying.{marks_fit}
use Rattle.lf_occupancy.proofs.Views.{marks_bound}
use Rattle.lf_occupancy.proofs.occupancy.Occupancy.strip_counts.Goals as goal

abbrev marks_in : List StripMarks → List ℕ
marks_in mark_lists = map (λ l. vec_len l.marks) mark_lists

pub returns-clause-room : goal.returns-clause-room
returns-clause-room c =
    let mark_lists = c.self.inside.mark_lists.items in
    let counts = c.in_ok-counts.counts.items in
    let same : counts ≡ marks_in mark_lists = c.in_ok-counts.ensures ∙ ap marks_in c.as_slice.ensures.value in
    subst (λ (m : Marked). KeepsCapacities counts (capacities_in m.mark_lists)) c.self.view_is
    (subst (λ (ns : List ℕ). KeepsCapacities ns (capacities_in mark_lists)) (sym same) (marks_fit mark_lists))

pub returns-clause-bounds : goal.returns-clause-bounds
returns-clause-bounds c = λ boxes team holds.
    let o = c.self.inside in
    let mark_lists = o.mark_lists.items in
    let counts = c.in_ok-counts.counts.items in
    let same : counts ≡ marks_in mark_lists = c.in_ok-counts.ensures ∙ ap marks_in c.as_slice.ensures.value in
    let held : Occupied = with_boxes record { index = o.index; site = o.site; mark_lists = mark_lists } boxes in
    subst (λ (m : Marked). Bounds (with_boxes m boxes) team (get_or boxes team []) counts) c.self.view_is
    (subst (λ (ns : List ℕ). Bounds held team (get_or boxes team []) ns) (sym same)
    (marks_bound held mark_lists (subst (λ (m : Marked). MarksBoxes m boxes) (sym c.self.view_is) holds) team))
