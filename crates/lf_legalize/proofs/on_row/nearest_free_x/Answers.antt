use Rattle.std.proofs.Common.{ℤ, ◌∙◌, subst, FitsSigned, w64, rules}
use Rattle.std.proofs.lemmas.Int.{to_z-of_z}
use Rattle.lf_gaps.specs.Gaps.{FindsGap}
use Rattle.lf_occupancy.specs.Views.{IsFreeInRow}
use Rattle.lf_legalize.proofs.RowChoice.{found_on}
use Rattle.lf_legalize.proofs.on_row.nearest_free_x.Goals as goal

pub returns : goal.returns
returns c =
    let s = c.args.search.now in
    let n = c.args.bottom.now.number in
    let window = c.args.bottom.now.window.now.span in
    let wanted = c.gap_target-wanted.result in
    let by : ℤ = c.padding_length-padding.result in
    let fits : FitsSigned w64 by = search rules in
    found_on s n c.args.bottom.now.row.now window wanted c.nearest_in_row.result c.requires.is_in_place c.search_is_occupied.ensures c.requires.one
    c.requires.bare c.gap_target-wanted.ensures.grid c.gap_target-wanted.ensures.width c.gap_target-wanted.ensures.target
    (subst (λ (v : ℤ). FindsGap (IsFreeInRow s.occupancy.now n s.id window v) wanted c.nearest_in_row.result)
    (to_z-of_z w64 by fits ∙ c.padding_length-padding.ensures.is) c.nearest_in_row.ensures)
