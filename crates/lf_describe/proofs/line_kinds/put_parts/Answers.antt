use Rattle.std.proofs.Common.{◌∙◌, ◌++◌, ℕ, List, ap, subst}
use Rattle.std.specs.Prelude.{flat_map}
use Rattle.std.specs.Io.KnownBytes.{Appends}
use Rattle.lf_describe.specs.declared.line_kinds.TheConstants.{PARTS}
use Rattle.lf_describe.specs.Parts.{part_text}
use Rattle.lf_describe.specs.Written.{AppendsFront}
use Rattle.lf_describe.proofs.Pieces.{on_err_weaker, on_ok_weaker}
use Rattle.lf_describe.proofs.Totals.{text_of_parts}
use Rattle.lf_describe.proofs.line_kinds.put_parts.Goals as goal

pub returns-clause-ok : goal.returns-clause-ok
returns-clause-ok g c =
    on_ok_weaker c.write_all_kinds.result
    (λ p. subst (Appends (g.W.Sink.contents c.args.writer.now) (g.W.Sink.contents c.write_all_kinds.new.writer))
    (ap (λ (w : List ℕ). w ++ flat_map (part_text c.args.design.now) PARTS) c.new-waiting.ensures.items ∙ text_of_parts c.args.design.now) p)
    c.write_all_kinds.ensures.ok

pub returns-clause-err : goal.returns-clause-err
returns-clause-err g c =
    on_err_weaker c.write_all_kinds.result
    (λ p. subst (AppendsFront (g.W.Sink.contents c.args.writer.now) (g.W.Sink.contents c.write_all_kinds.new.writer))
    (ap (λ (w : List ℕ). w ++ flat_map (part_text c.args.design.now) PARTS) c.new-waiting.ensures.items ∙ text_of_parts c.args.design.now) p)
    c.write_all_kinds.ensures.err
