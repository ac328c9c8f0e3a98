use Rattle.std.proofs.Common.{◌≡◌, ◌∙◌, ◌++◌, ◌∷◌, [], ℕ, List, length, map, ap, ap₂, refl, sym, append_assoc}
use Rattle.std.specs.Prelude.{count_by, is_none}
use Rattle.std.proofs.Math.ListN.{length-map}
use Rattle.std.proofs.lemmas.Result.{IfOk-weaker}
use Rattle.lf_rules.specs.declared.report_types.Listed.{Listed}
use Rattle.lf_reports.specs.Reports.{report_of, violations_in}
use Rattle.lf_proto.specs.ReportText.{report_front, report_text}
use Rattle.lf_proto.proofs.Reports.{in_parts}
use Rattle.lf_task_designs.specs.Reporting.{listed_as_loaded}
use Rattle.lf_task_designs.proofs.Reporting.{places_as_loaded}
use Rattle.lf_task_designs.proofs.check_report.text_by_verdicts.Goals as goal

pub returns : goal.returns
returns c = λ l unplaced are.
    let f = c.args.loaded.now.frame in
    let cells = c.args.loaded.now.cells in
    let listed = map listed_as_loaded cells in
    let count : c.len.result ≡ length listed = c.len.ensures ∙ sym (length-map cells listed_as_loaded) in
    let none : c.args.unplaced ≡ count_by (λ c. is_none c.place) listed = unplaced ∙ ap (λ (cs : List (Listed (List ℕ))). count_by (λ c. is_none c.place) cs) (places_as_loaded cells) in
    let written = c.put_cells.new.text.items in
    IfOk-weaker c.report_closed.result _ _
    (λ closed is.
    in_parts (report_of l f 0 listed) (violations_in l f 0 listed) c.in_ok-text.text.items (written ++ 93 ∷ []) closed refl
    (c.in_ok-text.ensures {u = tt} ∙ ap₂ report_front count none) (c.in_ok-put_cells.ensures {u = tt} l are)
    (is ∙ sym (append_assoc written (93 ∷ []) (125 ∷ [])))
    ∙ sym (ap (λ (cs : List (Listed (List ℕ))). report_text (report_of l f 0 cs)) (places_as_loaded cells)))
    c.report_closed.ensures
