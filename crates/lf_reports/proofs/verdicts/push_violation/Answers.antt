use Rattle.std.proofs.Common.{◌≡◌, ◌∙◌, None, Some, ap, sym, refl, map}
use Rattle.std.specs.Prelude.{slice_get, option_map}
use Rattle.std.proofs.lemmas.Option.{slice_get-map, slice_get_read}
use Rattle.lf_reports.specs.Reports.{with_byte_name, violation_at}
use Rattle.lf_reports.proofs.ReportLemmas.{reported_at, reported_none}
use Rattle.lf_reports.proofs.verdicts.push_violation.Goals as goal

pub returns-in-None : goal.returns-in-None
returns-in-None c = λ l f padding verdicts.
    let cells = map with_byte_name c.args.cells.now in
    let cell = c.index-cells-own.result in
    let there : slice_get cells c.args.own ≡ Some (with_byte_name cell) = slice_get-map with_byte_name c.args.cells.now c.args.own
    ∙ ap (option_map with_byte_name) (slice_get_read c.args.cells.now _ c.args.own cell refl c.requires.within c.index-cells-own.is) in
    reported_none c.args.violations.now.items (violation_at l f padding cells c.args.own)
    (reported_at l f padding cells c.args.own (with_byte_name cell) None there (sym c.in-None.is ∙ verdicts.each c.args.own (with_byte_name cell) there))
