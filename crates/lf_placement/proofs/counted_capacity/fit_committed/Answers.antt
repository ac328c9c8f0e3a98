use Rattle.std.proofs.Common.{◌≡◌, [], Option, Some, ap, refl, set, subst, sym, ◌∙◌}
use Rattle.std.specs.Prelude.{OnOk, slice_get}
use Rattle.lf_floorplan.specs.declared.place.Place.{Place}
use Rattle.lf_cells.specs.Cells.{cells_of, committed_at, working_at}
use Rattle.lf_occupancy.specs.Views.{Bounds}
use Rattle.lf_occupancy.specs.Strips.{with_boxes}
use Rattle.lf_undo.specs.Entries.{Places}
use Rattle.lf_placement.specs.Placements.{boxes_at}
use Rattle.lf_placement.proofs.Tallying.{put_same}
use Rattle.lf_placement.proofs.counted_capacity.fit_committed.Goals as goal

pub returns-then-same_place-clause-own : goal.returns-then-same_place-clause-own
returns-then-same_place-clause-own c = λ places is bounds.
    let id = c.args.id.now in
    let cells = cells_of c.args.sized.now.cells.now id.team in
    let alike : working_at cells id.own ≡ committed_at cells id.own =
    sym c.working-from.ensures ∙ c.if-same_place.ensures.0 refl ∙ c.committed-to.ensures in
    let there : slice_get places id.own ≡ Some (committed_at cells id.own) = is ∙ ap (λ (p : Option Place). Some p) alike in
    subst (λ (ps : Places). Bounds (with_boxes c.args.occupancy.now []) id.team (boxes_at c.args.sized.now.frame.now cells ps) c.args.counts.now)
    (sym (put_same places id.own (committed_at cells id.own) there)) bounds

pub returns-clause-own : goal.returns-clause-own
returns-clause-own c = λ places is bounds.
    let id = c.args.id.now in
    let cells = cells_of c.args.sized.now.cells.now id.team in
    let from : c.of.result ≡ working_at cells id.own = c.of.ensures ∙ c.working-from.ensures in
    let to : c.of-2.result ≡ committed_at cells id.own = c.of-2.ensures ∙ c.committed-to.ensures in
    subst
    (λ (p : Option Place).
    OnOk c.reserve_change.result
    (Bounds (with_boxes c.reserve_change.new.occupancy []) id.team (boxes_at c.args.sized.now.frame.now cells (set places id.own p)) c.reserve_change.new.counts))
    to
    (c.reserve_change.ensures.own places (is ∙ ap (λ (p : Option Place). Some p) (sym from)) bounds)
