use Rattle.std.proofs.Common.{◌≡◌, ◌∙◌, ◌++◌, ◌∷◌, [], List, length, map, ap, ap₂, refl, sym, append_assoc}
use Rattle.std.specs.Prelude.{count_by, is_none}
use Rattle.std.proofs.Math.ListN.{length-map}
use Rattle.std.proofs.lemmas.Result.{IfOk-weaker}
use Rattle.lf_cells.specs.declared.cell.Cell.{Cell}
use Rattle.lf_cells.specs.Cells.{Cells, cells_of}
use Rattle.lf_cells.proofs.TeamIds.{ids_long}
use Rattle.lf_reports.specs.Reports.{report_of, violations_in}
use Rattle.lf_proto.specs.ReportText.{report_front}
use Rattle.lf_proto.proofs.Reports.{in_parts}
use Rattle.lf_floor_model.specs.Teams.{listed_of}
use Rattle.lf_floor_verbs.specs.Tables.{table_cells, frame_of}
use Rattle.lf_floor_verbs.proofs.Reporting.{unplaced_listed}
use Rattle.lf_floor_verbs.proofs.report.report_text.Goals as goal

pub returns : goal.returns
returns g c =
    let number = c.args.context.now.number in
    let sites = c.args.context.now.padding.sites in
    let f = frame_of c.args.tables.now in
    let cells = table_cells number c.args.tables.now in
    let listed = map (listed_of number) cells in
    let table = c.cells-cells.result.now in
    let same : cells_of table number ≡ cells = ap (λ (cs : Cells). cells_of cs number) c.cells-cells.ensures in
    let count : length c.cells_of-count.result.now ≡ length listed =
    ids_long number (cells_of table number) c.cells_of-count.result.now c.cells_of-count.ensures ∙ ap (λ (cs : List Cell). length cs) same ∙ sym (length-map cells (listed_of number)) in
    let unplaced : c.unplaced_in.result ≡ count_by (λ c. is_none c.place) listed =
    c.unplaced_in.ensures ∙ ap (λ (cs : List Cell). count_by (λ c. is_none c.working) cs) same ∙ unplaced_listed number cells in
    let written = c.put_cells.new.text.items in
    IfOk-weaker c.report_closed.result _ _
    (λ closed is l.
    in_parts (report_of l f sites listed) (violations_in l f sites listed) c.in_ok-text.text.items (written ++ 93 ∷ []) closed refl
    (c.in_ok-text.ensures {u = tt} ∙ ap₂ report_front count unplaced) (c.in_ok-put_cells.ensures {u = tt} l)
    (is ∙ sym (append_assoc written (93 ∷ []) (125 ∷ []))))
    c.report_closed.ensures
