use Rattle.std.proofs.Common.{List, ap, subst, ◌∙◌}
use Rattle.std.specs.Prelude.{IsPermutation}
use Rattle.lf_segments.specs.declared.rows_by_y.RowEntry.{RowEntry}
use Rattle.lf_segments.specs.RowsByY.{entries_from}
use Rattle.lf_segments.proofs.HeightLemmas.{rows_by_y}
use Rattle.lf_segments.proofs.rows_by_y.rows_in_order.Goals as goal

pub returns : goal.returns
returns c =
    let f = c.args.frame.now in
    let es = c.sort_by_y.new.entries.items in
    let same = c.in_ok-entries.ensures ∙ ap (entries_from 0) c.as_slice.ensures in
    rows_by_y f es (subst (λ (xs : List RowEntry). IsPermutation xs es) same c.sort_by_y.ensures.moved) c.sort_by_y.ensures.sorted
