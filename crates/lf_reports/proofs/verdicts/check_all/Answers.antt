use Rattle.std.proofs.Common.{◌≡◌, ◌∙◌, ℕ, List, Option, ap, sym, subst, length}
use Rattle.std.specs.Prelude.{All, IfOk, ◌↔◌}
use Rattle.std.proofs.Math.ListN.{length-map}
use Rattle.std.proofs.lemmas.Result.{IfOk-weaker}
use Rattle.lf_rules.specs.declared.report_types.Listed.{Listed}
use Rattle.lf_rules.specs.declared.report_types.Report.{Report}
use Rattle.lf_rules.specs.declared.rule.Broken.{Broken}
use Rattle.lf_rules.specs.FullyLegal.{IsFullyLegal, design_cells_at}
use Rattle.lf_rules.specs.Reports.{IsClean}
use Rattle.lf_reports.specs.Reports.{with_byte_name, report_of, IsListed}
use Rattle.lf_reports.proofs.CleanLemmas.{all_listed, each_named, joined, length_listed}
use Rattle.lf_reports.proofs.LegalVerdicts.{clean_there, verdicts_moved}
use Rattle.lf_reports.proofs.verdicts.check_all.Goals as goal

pub report_from_verdicts-requires : goal.report_from_verdicts-requires
report_from_verdicts-requires c =
    let are = joined c.args.loaded.now.cells c.args.places.now c.deref.result.now c.in_ok-cells.cells.items c.deref.ensures.value (c.in_ok-cells.ensures {u = tt}) in
    ap (λ (vs : List (Option Broken)). length vs) c.deref-2.ensures.value ∙ c.in_ok-verdicts.ensures.count
    ∙ sym (length_listed c.args.loaded.now.cells c.args.places.now) ∙ sym (ap (λ (cs : List (Listed (List ℕ))). length cs) are) ∙ length-map c.deref.result.now with_byte_name

pub returns-clause-report : goal.returns-clause-report
returns-clause-report c = λ l.
    let f = c.args.loaded.now.frame in
    let are = joined c.args.loaded.now.cells c.args.places.now c.deref.result.now c.in_ok-cells.cells.items c.deref.ensures.value (c.in_ok-cells.ensures {u = tt}) in
    let verdicts = verdicts_moved l f are c.deref-2.ensures.value (c.in_ok-verdicts.ensures.each l) in
    subst (λ (cells : List (Listed (List ℕ))). IfOk c.report_from_verdicts.result (λ report. report ≡ report_of l f 0 cells)) are (c.report_from_verdicts.ensures.report l f 0 verdicts)

pub returns-clause-legal : goal.returns-clause-legal
returns-clause-legal c =
    let l = c.legalizer_exists.ensures in
    let f = c.args.loaded.now.frame in
    let cells = c.args.loaded.now.cells in
    let are = joined cells c.args.places.now c.deref.result.now c.in_ok-cells.cells.items c.deref.ensures.value (c.in_ok-cells.ensures {u = tt}) in
    let verdicts = verdicts_moved l f are c.deref-2.ensures.value (c.in_ok-verdicts.ensures.each l) in
    IfOk-weaker c.report_from_verdicts.result _ _
    (λ report is. subst (λ (r : Report). IsClean r ↔ IsFullyLegal f (design_cells_at cells c.args.places.now)) (sym (is ∙ ap (λ (cs : List (Listed (List ℕ))). report_of l f 0 cs) are))
    (clean_there l f cells c.args.places.now c.cell_is_sized.ensures c.args.loaded.now.cells_known))
    (c.report_from_verdicts.ensures.report l f 0 verdicts)

pub returns-clause-reported : goal.returns-clause-reported
returns-clause-reported c =
    let l = c.legalizer_exists.ensures in
    let f = c.args.loaded.now.frame in
    let cells = c.args.loaded.now.cells in
    let are = joined cells c.args.places.now c.deref.result.now c.in_ok-cells.cells.items c.deref.ensures.value (c.in_ok-cells.ensures {u = tt}) in
    let verdicts = verdicts_moved l f are c.deref-2.ensures.value (c.in_ok-verdicts.ensures.each l) in
    c.report_from_verdicts.ensures.reported l f 0 verdicts
    (each_named f c.deref.result.now (subst (All (IsListed f)) (sym are) (all_listed f c.cell_is_sized.ensures cells c.args.places.now c.args.loaded.now.cells_known)))
