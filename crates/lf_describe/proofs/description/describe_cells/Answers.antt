use Rattle.std.proofs.Common.{inl, inr, refl, sym, subst, map}
use Rattle.lf_reports.specs.Reports.{AreVerdicts, with_byte_name}
use Rattle.lf_density.specs.Density.{no_density}
use Rattle.lf_describe.proofs.Pieces.{first_bytes, none_first, on_err, on_err_weaker, on_ok_weaker}
use Rattle.lf_describe.proofs.Totals.{clean_is, cut_is, text_is}
use Rattle.lf_describe.proofs.description.describe_cells.Goals as goal

pub returns-in_default-clause-cut : goal.returns-in_default-clause-cut
returns-in_default-clause-cut g c = λ l. none_first l _ _ _ _

pub returns-in_default-verdicts_of-clause-cut : goal.returns-in_default-verdicts_of-clause-cut
returns-in_default-verdicts_of-clause-cut g c = λ l. none_first l _ _ _ _

pub returns-in_default-density_in-clause-cut : goal.returns-in_default-density_in-clause-cut
returns-in_default-density_in-clause-cut g c = λ l. none_first l _ _ _ _

pub returns-clause-text : goal.returns-clause-text
returns-clause-text g c = λ l.
    on_ok_weaker c.write_description.result
    (λ p. record { density = c.in-Ok-density_in.density; measured = c.in-Ok-density_in.ensures; text = p })
    (text_is _ l c.write_description.result (g.W.Sink.contents c.args.writer.now) (g.W.Sink.contents c.write_description.new.writer) c.write_description.ensures.text
    (subst (AreVerdicts l c.args.frame.now 0 (map with_byte_name c.args.cells.now)) (sym c.as_slice.ensures.value) (c.in-Ok-verdicts_of.ensures.each l)))

pub returns-clause-clean : goal.returns-clause-clean
returns-clause-clean g c = λ l.
    clean_is _ l c.write_description.result c.write_description.ensures.clean
    (subst (AreVerdicts l c.args.frame.now 0 (map with_byte_name c.args.cells.now)) (sym c.as_slice.ensures.value) (c.in-Ok-verdicts_of.ensures.each l))

pub returns-clause-cut : goal.returns-clause-cut
returns-clause-cut g c = λ l.
    on_err_weaker c.write_description.result
    (λ p. let first = first_bytes _ _ _ p in record { density = c.in-Ok-density_in.density; many = first.0; measured = inr c.in-Ok-density_in.ensures; text = first.1 })
    (cut_is _ l c.write_description.result (g.W.Sink.contents c.args.writer.now) (g.W.Sink.contents c.write_description.new.writer) c.write_description.ensures.cut
    (subst (AreVerdicts l c.args.frame.now 0 (map with_byte_name c.args.cells.now)) (sym c.as_slice.ensures.value) (c.in-Ok-verdicts_of.ensures.each l)))
