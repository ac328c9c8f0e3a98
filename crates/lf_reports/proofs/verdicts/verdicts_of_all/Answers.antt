use Rattle.std.proofs.Common.{◌≡◌, ◌∙◌, ℕ, List, ap, sym, subst, arith, length}
use Rattle.std.specs.Prelude.{All, IfOk}
use Rattle.std.proofs.Math.ListN.{length-map}
use Rattle.std.proofs.lemmas.Result.{IfOk-weaker}
use Rattle.lf_rules.specs.declared.report_types.Listed.{Listed}
use Rattle.lf_reports.specs.Reports.{with_byte_name, AreVerdicts, IsListed}
use Rattle.lf_reports.proofs.CleanLemmas.{all_listed, each_named, joined, length_listed}
use Rattle.lf_reports.proofs.LegalVerdicts.{legal_by_verdicts}
use Rattle.lf_reports.proofs.verdicts.verdicts_of_all.Goals as goal

pub verdicts_over-requires : goal.verdicts_over-requires
verdicts_over-requires c =
    let f = c.args.loaded.now.frame in
    let are = joined c.args.loaded.now.cells c.args.places.now c.deref.result.now c.in_ok-cells.cells.items c.deref.ensures.value (c.in_ok-cells.ensures {u = tt}) in
    let count : length c.deref.result.now ≡ length c.args.loaded.now.cells =
    sym (length-map c.deref.result.now with_byte_name) ∙ ap (λ (cs : List (Listed (List ℕ))). length cs) are ∙ length_listed c.args.loaded.now.cells c.args.places.now in
    let below = c.args.loaded.now.few_cells in
    record {
      listed = each_named f c.deref.result.now
          (subst (All (IsListed f)) (sym are) (all_listed f c.cell_is_sized.ensures c.args.loaded.now.cells c.args.places.now c.args.loaded.now.cells_known));
      few = omega (arith, count, below);
    }

pub returns-clause-count : goal.returns-clause-count
returns-clause-count c =
    let are = joined c.args.loaded.now.cells c.args.places.now c.deref.result.now c.in_ok-cells.cells.items c.deref.ensures.value (c.in_ok-cells.ensures {u = tt}) in
    let count : length c.deref.result.now ≡ length c.args.loaded.now.cells =
    sym (length-map c.deref.result.now with_byte_name) ∙ ap (λ (cs : List (Listed (List ℕ))). length cs) are ∙ length_listed c.args.loaded.now.cells c.args.places.now in
    subst (λ (n : ℕ). IfOk c.verdicts_over.result (λ verdicts. length verdicts.items ≡ n)) count c.verdicts_over.ensures.count

pub returns-clause-each : goal.returns-clause-each
returns-clause-each c = λ l.
    let are = joined c.args.loaded.now.cells c.args.places.now c.deref.result.now c.in_ok-cells.cells.items c.deref.ensures.value (c.in_ok-cells.ensures {u = tt}) in
    subst (λ (cells : List (Listed (List ℕ))). IfOk c.verdicts_over.result (λ verdicts. AreVerdicts l c.args.loaded.now.frame 0 cells verdicts.items)) are (c.verdicts_over.ensures.each l)

pub returns-clause-legal : goal.returns-clause-legal
returns-clause-legal c =
    let l = c.legalizer_exists.ensures in
    let f = c.args.loaded.now.frame in
    let cells = c.args.loaded.now.cells in
    let are = joined cells c.args.places.now c.deref.result.now c.in_ok-cells.cells.items c.deref.ensures.value (c.in_ok-cells.ensures {u = tt}) in
    IfOk-weaker c.verdicts_over.result _ _
    (λ verdicts reported. legal_by_verdicts l f cells c.args.places.now verdicts.items c.cell_is_sized.ensures c.args.loaded.now.cells_known c.requires
    (subst (λ (listed : List (Listed (List ℕ))). AreVerdicts l f 0 listed verdicts.items) are reported))
    (c.verdicts_over.ensures.each l)
