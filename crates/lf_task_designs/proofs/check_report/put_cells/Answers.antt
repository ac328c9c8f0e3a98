use Rattle.std.proofs.Common.{◌≡◌, ◌∙◌, ◌++◌, ℕ, [], false, length, List, ap, refl, arith}
use Rattle.std.specs.Prelude.{filter_map}
use Rattle.std.specs.List.{cons_option, range_with_len}
use Rattle.std.proofs.lemmas.List.{append-nil}
use Rattle.lf_rules.specs.declared.report_types.Violation.{Violation}
use Rattle.lf_proto.specs.ReportText.{violations_text}
use Rattle.lf_task_designs.proofs.Reporting.{all_reported, names_printed, one_more_violation, reported_by}
use Rattle.lf_task_designs.proofs.check_report.put_cells.Goals as goal

pub put_verdict-requires : goal.put_verdict-requires
put_verdict-requires c = names_printed c.args.loaded.now.frame c.args.loaded.now.cells c.args.loaded.now.cells_known

pub loop-own-init : goal.loop-own-init
loop-own-init c = λ rest. refl

pub loop-own-preserved : goal.loop-own-preserved
loop-own-preserved c = λ rest.
    let cells = c.args.loaded.now.cells in
    let verdicts = c.args.verdicts.now in
    let own = c.loop-own.own in
    c.in_ok-later.ensures {u = tt} rest
    ∙ c.loop-own.invariant (cons_option (reported_by cells verdicts own) rest)
    ∙ ap (λ (vs : List Violation). c.args.text.now.items ++ violations_text false vs) (one_more_violation (reported_by cells verdicts) own rest)

pub returns : goal.returns
returns c = λ l are.
    let cells = c.args.loaded.now.cells in
    let verdicts = c.args.verdicts.now in
    let all : c.loop-own.own ≡ length verdicts = omega arith in
    c.loop-own.invariant []
    ∙ ap (λ (vs : List Violation). c.args.text.now.items ++ violations_text false vs)
    (append-nil (filter_map (reported_by cells verdicts) (range_with_len 0 c.loop-own.own)) ∙ ap (λ (n : ℕ). filter_map (reported_by cells verdicts) (range_with_len 0 n)) all
    ∙ all_reported l c.args.loaded.now.frame cells verdicts are)
