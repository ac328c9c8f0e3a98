use Rattle.std.proofs.Common.{◌∙◌, ◌++◌, Option, ap, sym}
use Rattle.std.specs.List.{cons_option}
use Rattle.lf_rules.specs.declared.report_types.Violation.{Violation}
use Rattle.lf_proto.specs.ReportText.{violations_text}
use Rattle.lf_proto.proofs.Reports.{names_reported}
use Rattle.lf_proto.proofs.violations.put_verdict.Goals as goal

pub put_violation-requires : goal.put_violation-requires
put_violation-requires g c =
    names_reported (g.N.Names.names c.args.names.now) c.args.own c.args.verdict c.in-Some.violation c.requires (sym c.in-Some.is ∙ c.in_ok-violation.ensures {u = tt})

pub returns-in_default : goal.returns-in_default
returns-in_default g c = λ rest.
    ap (λ (o : Option Violation). c.args.text.now.items ++ violations_text c.args.later (cons_option o rest))
    (sym c.in_default.is ∙ c.in_ok-violation.ensures {u = tt})

pub returns : goal.returns
returns g c = λ rest.
    c.in_ok-put_violation.ensures {u = tt} rest
    ∙ ap (λ (o : Option Violation). c.args.text.now.items ++ violations_text c.args.later (cons_option o rest))
    (sym c.in-Some.is ∙ c.in_ok-violation.ensures {u = tt})
