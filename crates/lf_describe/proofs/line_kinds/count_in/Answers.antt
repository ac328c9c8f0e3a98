use Rattle.std.proofs.Common.{◌≡◌, ◌∙◌, sym, length}
use Rattle.std.proofs.Math.ListN.{length-map}
use Rattle.lf_reports.specs.Reports.{with_byte_name}
use Rattle.lf_describe.specs.declared.line_kinds.Part.TheVariants.{Cells}
use Rattle.lf_describe.specs.Parts.{described_cells, part_lines}
use Rattle.lf_describe.proofs.Numbered.{count}
use Rattle.lf_describe.proofs.line_kinds.count_in.Goals as goal

pub returns-in-Cells : goal.returns-in-Cells
returns-in-Cells c =
    let reported = c.args.design.now in
    let same : length (part_lines reported Cells) ≡ length (described_cells reported) = count _ 0 (described_cells reported) in
    rw c.in-Cells.is (sym (same ∙ length-map reported.cells.now with_byte_name))
