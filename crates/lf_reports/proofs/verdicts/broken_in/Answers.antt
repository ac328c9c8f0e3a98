use Rattle.std.proofs.Common.{◌∙◌, Option, ap, sym, map}
use Rattle.std.specs.Prelude.{option_and_then}
use Rattle.lf_floorplan.specs.declared.place.Place.{Place}
use Rattle.lf_reports.specs.Reports.{listed_member, with_byte_name, candidate_among}
use Rattle.lf_reports.proofs.ReportLemmas.{broken_is}
use Rattle.lf_reports.proofs.verdicts.broken_in.Goals as goal

pub returns : goal.returns
returns c = λ l.
    let f = c.args.frame.now in
    let cells = map with_byte_name c.args.cells.now in
    let cell = with_byte_name c.args.cell.now in
    broken_is l f c.args.near.now.padding.sites cells c.args.own cell c.in_ok-place.place c.broken_at.result c.verdict_is_unique.ensures c.requires.cell.this
    (c.broken_at.ensures (map listed_member cells) c.requires.boxes.tree)
    ∙ ap (λ (o : Option Place). option_and_then (λ p. l.first_broken (candidate_among f c.args.near.now.padding.sites cells c.args.own cell p)) o) (sym c.in_ok-place.was)
