use Rattle.std.proofs.Common.{◌∙◌, ◌++◌, ap, sym, subst}
use Rattle.std.specs.Prelude.{OnErr, OnOk, option_map}
use Rattle.serde_json.specs.Data.{Data}
use Rattle.serde_json.specs.View.{view}
use Rattle.lf_describe.specs.Description.{line_text}
use Rattle.lf_describe.specs.Written.{AppendsFront, WritesFrontOf}
use Rattle.lf_describe.proofs.NoFloat.{no_float}
use Rattle.lf_describe.proofs.Pieces.{some_same, unwritten}
use Rattle.lf_describe.proofs.line_kinds.put_number.Goals as goal

pub returns-in_default-clause-err : goal.returns-in_default-clause-err
returns-in_default-clause-err g c = λ d at. unwritten _ _

pub put_line-requires : goal.put_line-requires
put_line-requires g c = no_float c.args.design.now c.args.part c.args.number _ (sym c.in-Ok.ensures ∙ ap (option_map view) c.in-Some.is)

pub returns-clause-ok : goal.returns-clause-ok
returns-clause-ok g c = λ d at.
    subst (λ (x : Data). OnOk c.put_line.result (WritesFrontOf (g.W.Sink.contents c.args.writer.now) (g.W.Sink.contents c.put_line.new.writer) (c.args.waiting.now.items ++ line_text x) c.put_line.new.waiting.items))
    (some_same _ d (ap (option_map view) (sym c.in-Some.is) ∙ c.in-Ok.ensures ∙ at)) c.put_line.ensures.ok

pub returns-clause-err : goal.returns-clause-err
returns-clause-err g c = λ d at.
    subst (λ (x : Data). OnErr c.put_line.result (AppendsFront (g.W.Sink.contents c.args.writer.now) (g.W.Sink.contents c.put_line.new.writer) (c.args.waiting.now.items ++ line_text x)))
    (some_same _ d (ap (option_map view) (sym c.in-Some.is) ∙ c.in-Ok.ensures ∙ at)) c.put_line.ensures.err
