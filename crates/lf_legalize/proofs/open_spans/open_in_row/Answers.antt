use Rattle.std.proofs.Common.{◌≡◌, ◌∙◌, ℕ, ℤ, FitsSigned, w64, get_or, refl, rules, subst, sym}
use Rattle.std.proofs.lemmas.Int.{to_z-of_z}
use Rattle.std.proofs.lemmas.Result.{IfOk-weaker}
use Rattle.lf_units.specs.Spans.{IsRising}
use Rattle.std.specs.Prelude.{slice_index_or, []}
use Rattle.lf_segments.specs.Indexes.{FrameIndexView}
use Rattle.lf_segments.specs.Strips.{AreNear}
use Rattle.lf_occupancy.specs.Views.{IsFreeInRow}
use Rattle.lf_legalize.specs.RowSearches.{padding_in}
use Rattle.lf_legalize.specs.Levels.{AreWithoutSoft, AreOpenInRow}
use Rattle.lf_legalize.proofs.SoftLemmas.{open_bare, open_row, soft_rising}
use Rattle.lf_legalize.proofs.open_spans.open_in_row.Goals as goal

pub without_soft-requires-clause-free : goal.without_soft-requires-clause-free
without_soft-requires-clause-free c = c.in_ok-free.ensures.rising

pub without_soft-requires-clause-soft : goal.without_soft-requires-clause-soft
without_soft-requires-clause-soft c k =
    subst (λ (g : FrameIndexView). IsRising (slice_index_or g.soft k [])) (sym c.index-index.ensures)
    (soft_rising c.args.search.now.frame.now c.args.search.now.occupancy.now.index c.search_is_occupied.ensures.index k)

pub returns-then-has_no_soft : goal.returns-then-has_no_soft
returns-then-has_no_soft c =
    let o = c.args.search.now.occupancy.now in
    let id = c.args.search.now.id in
    let window = c.args.window.now.span in
    let by : ℤ = c.padding_length-padding.result in
    let fits : FitsSigned w64 by = search rules in
    let free = c.in_ok-free.free.items in
    let none = subst (λ (g : FrameIndexView). (k : ℕ) → get_or g.soft k [] ≡ []) c.index-index.ensures (c.if-has_no_soft.ensures refl) in
    open_bare o c.args.number id window (padding_in c.args.search.now) free none
    (subst (λ (v : ℤ). IsFreeInRow o c.args.number id window v free) (to_z-of_z w64 by fits ∙ c.padding_length-padding.ensures.is) c.in_ok-free.ensures)

pub returns : goal.returns
returns c =
    let o = c.args.search.now.occupancy.now in
    let id = c.args.search.now.id in
    let window = c.args.window.now.span in
    let start = c.strips_overlapping-near.result.start in
    let end = c.strips_overlapping-near.result.end in
    let padding = padding_in c.args.search.now in
    let by : ℤ = c.padding_length-padding.result in
    let fits : FitsSigned w64 by = search rules in
    let free = c.in_ok-free.free.items in
    let near = subst (λ (g : FrameIndexView). AreNear g.strips c.args.number id.team window.lo window.hi start end) c.index-index.ensures c.strips_overlapping-near.ensures in
    IfOk-weaker c.without_soft.result (λ left. AreWithoutSoft c.index-index.result.now.soft start end free left.items)
    (λ left. AreOpenInRow o c.args.number id window padding left.items)
    (λ left is. open_row o c.args.number id window padding start end free left.items near
    (subst (λ (v : ℤ). IsFreeInRow o c.args.number id window v free) (to_z-of_z w64 by fits ∙ c.padding_length-padding.ensures.is) c.in_ok-free.ensures)
    (subst (λ (g : FrameIndexView). AreWithoutSoft g.soft start end free left.items) c.index-index.ensures is))
    c.without_soft.ensures
