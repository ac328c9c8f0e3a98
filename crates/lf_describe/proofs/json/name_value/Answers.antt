use Rattle.std.proofs.Common.{◌≡◌, ◌∙◌, ap, sym, subst}
use Rattle.std.specs.Prelude.{IfOk}
use Rattle.serde_json.specs.Data.{Data, string}
use Rattle.serde_json.specs.View.{view}
use Rattle.lf_describe.proofs.Names.{reported, not_utf8_is_null}
use Rattle.lf_describe.proofs.json.name_value.Goals as goal

pub returns-in-Ok : goal.returns-in-Ok
returns-in-Ok c =
    let (same, is) = c.in-Ok.ensures.cases in
    subst (λ (d : Data). IfOk c.string_value.result (λ v. view v ≡ d)) (ap string same ∙ sym (reported c.args.name.now is)) c.string_value.ensures

pub returns-in-Err : goal.returns-in-Err
returns-in-Err c = c.null_value.ensures ∙ sym (not_utf8_is_null c.args.name.now c.in-Err.ensures.cases.0)
