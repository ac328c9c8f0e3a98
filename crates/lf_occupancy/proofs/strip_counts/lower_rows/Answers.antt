use Rattle.std.proofs.Common.{List, arith, subst, ◌∙◌}
use Rattle.std.proofs.lemmas.List.{get_or_default, take_all}
use Rattle.lf_units.proofs.Anys.{any_nil}
use Rattle.lf_segments.specs.declared.rows_by_y.RowEntry.{RowEntry}
use Rattle.lf_occupancy.specs.Strips.{AreChanged, IsReached}
use Rattle.lf_occupancy.specs.StripCounting.{IsLessAt}
use Rattle.lf_occupancy.proofs.Changes.{none_changed, rows_further}
use Rattle.lf_occupancy.proofs.Settling.{changed_in_row}
use Rattle.lf_occupancy.specs.Widened.{all_widened}
use Rattle.lf_occupancy.proofs.strip_counts.lower_rows.Goals as goal

pub loop-entry-init : goal.loop-entry-init
loop-entry-init c = none_changed _ _ _ (λ n r. any_nil _ r.1)

pub lower_run-requires-clause-many : goal.lower_run-requires-clause-many
lower_run-requires-clause-many c = c.loop-entry.invariant.many ∙ c.requires

pub lower_run-requires-clause-within : goal.lower_run-requires-clause-within
lower_run-requires-clause-within c = c.widened_strips-near.ensures.within

pub loop-entry-preserved : goal.loop-entry-preserved
loop-entry-preserved c =
    let xs = all_widened c.args.strips.now in
    let team = c.args.team in
    let rect = c.args.rect.now in
    let rows = c.args.rows.now.rows.now in
    let i = c.loop-entry.entry-index in
    rows_further (IsLessAt xs rect) xs rows i _ team rect c.args.counts.now.items c.loop-entry.counts.items c.lower_run.new.counts.items c.args.rows.now.once
    (omega arith) (get_or_default rows i _ _ (omega arith)) c.loop-entry.invariant
    (changed_in_row xs _ team rect c.widened_strips-near.result (IsLessAt xs rect) c.loop-entry.counts.items c.lower_run.new.counts.items
    c.widened_strips-near.ensures c.lower_run.ensures)

pub returns : goal.returns
returns c =
    let xs = all_widened c.args.strips.now in
    subst
    (λ (es : List RowEntry).
    AreChanged (IsReached xs es c.args.team c.args.rect.now) (IsLessAt xs c.args.rect.now) c.args.counts.now.items c.loop-entry.counts.items)
    (take_all c.loop-entry.entry-index c.args.rows.now.rows.now (omega arith)) c.loop-entry.invariant
