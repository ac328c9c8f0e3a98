use Rattle.std.proofs.Common.{◌≡◌, ◌∙◌, ap, subst}
use Rattle.std.specs.Prelude.{IfOk}
use Rattle.serde_json.specs.Data.{Data}
use Rattle.serde_json.specs.View.{view}
use Rattle.lf_describe.specs.Description.{text_data}
use Rattle.lf_describe.proofs.Names.{reported_word}
use Rattle.lf_describe.proofs.json.orient_value.Goals as goal

pub returns : goal.returns
returns c = subst (λ (d : Data). IfOk c.name_value.result (λ v. view v ≡ d)) (ap text_data c.orient_word.ensures ∙ reported_word c.args.orient) c.name_value.ensures
