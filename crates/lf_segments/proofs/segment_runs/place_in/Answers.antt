use Rattle.std.proofs.Common.{refl, arith}
use Rattle.std.proofs.lemmas.Bool.{false≢true}
use Rattle.lf_units.specs.Spans.{IsFilled}
use Rattle.lf_segments.specs.Segments.{ComesBefore, IsOf}
use Rattle.lf_segments.proofs.RunLemmas.{run_pairs, run_all, xs_rise, ends_rise, none_at, none_between, none_of_run, found_at, not_after}
use Rattle.lf_segments.proofs.segment_runs.place_in.Goals as goal

pub count_ended-k-requires : goal.count_ended-k-requires
count_ended-k-requires c =
    let xs = c.args.segments.now in
    let run = c.run_of-run.result.segments.now in
    let n = c.run_of-run.result.start in
    let P = IsOf c.args.row c.args.team in
    ends_rise run (xs_rise run c.args.row c.args.team (run_pairs ComesBefore P xs run n c.requires.order c.run_of-run.ensures) c.run_of-run.ensures.has)
    (run_all (λ g. IsFilled g.span) P xs run n c.requires.filled c.run_of-run.ensures)

pub returns-then-run-k : goal.returns-then-run-k
returns-then-run-k c =
    let run = c.run_of-run.result.segments.now in
    none_of_run c.args.segments.now run c.args.row c.args.team c.run_of-run.result.start c.args.x.now c.run_of-run.ensures
    (none_at run c.args.row c.args.team c.count_ended-k.result c.args.x.now c.count_ended-k.ensures.ended (omega arith))

pub returns-then-begins_after : goal.returns-then-begins_after
returns-then-begins_after c =
    let xs = c.args.segments.now in
    let run = c.run_of-run.result.segments.now in
    let n = c.run_of-run.result.start in
    let P = IsOf c.args.row c.args.team in
    none_of_run xs run c.args.row c.args.team n c.args.x.now c.run_of-run.ensures
    (none_between run c.args.row c.args.team c.count_ended-k.result c.args.x.now _
    (xs_rise run c.args.row c.args.team (run_pairs ComesBefore P xs run n c.requires.order c.run_of-run.ensures) c.run_of-run.ensures.has)
    (run_all (λ g. IsFilled g.span) P xs run n c.requires.filled c.run_of-run.ensures) c.count_ended-k.ensures.ended (omega arith)
    (c.if-begins_after.ensures.0 refl))

pub returns : goal.returns
returns c =
    let run = c.run_of-run.result.segments.now in
    found_at c.args.segments.now run c.args.row c.args.team c.run_of-run.result.start c.count_ended-k.result c.args.x.now _ c.run_of-run.ensures (omega arith)
    (not_after _ _ (λ after_it. false≢true (c.if-begins_after.ensures.1 after_it))) c.count_ended-k.ensures.rest
