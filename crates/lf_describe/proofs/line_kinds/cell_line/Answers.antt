use Rattle.std.proofs.Common.{◌≡◌, ◌∙◌, Option, Some, None, ap, sym}
use Rattle.std.specs.Prelude.{option_map, slice_get}
use Rattle.lf_rules.specs.declared.rule.Broken.{Broken}
use Rattle.lf_reports.specs.Reports.{with_byte_name}
use Rattle.lf_describe.specs.Description.{cell_data}
use Rattle.lf_describe.specs.Parts.{described_cells}
use Rattle.lf_describe.proofs.Numbered.{line_at, no_line_at}
use Rattle.lf_describe.proofs.line_kinds.cell_line.Goals as goal

pub returns-in_default : goal.returns-in_default
returns-in_default c =
    let cells = described_cells c.args.design.now in
    let none : slice_get cells c.args.number ≡ None = sym c.cell_at.ensures.there ∙ ap (option_map (λ x. with_byte_name x.now)) c.in_default.is in
    sym (no_line_at _ c.args.number cells none)

pub returns : goal.returns
returns c =
    let reported = c.args.design.now in
    let cell = with_byte_name c.in-Some.cell.now in
    let there : slice_get (described_cells reported) c.args.number ≡ Some cell = sym c.cell_at.ensures.there ∙ ap (option_map (λ x. with_byte_name x.now)) c.in-Some.is in
    ap Some (c.in_ok-value.ensures ∙ ap (λ (b : Option Broken). cell_data reported.frame.now (described_cells reported) cell b) c.verdict_of-verdict.ensures)
    ∙ sym (line_at _ c.args.number (described_cells reported) cell there)
