use Rattle.std.proofs.Common.{[], sym, ap, ◌∙◌}
use Rattle.lf_names.specs.Pattern.{parts_of, bytes_after_star}
use Rattle.lf_names.proofs.Parts.{after_star, after_no_star}
use Rattle.lf_names.proofs.pattern.after_last_star.Goals as goal

pub loop-after_it-preserved : goal.loop-after_it-preserved
loop-after_it-preserved c =
    c.loop-after_it.invariant ∙ ap (bytes_after_star []) c.in-Some.ensures.parts ∙ after_star [] c.in-Some.field-0-0.now (parts_of c.in-Some.after_it.now)

pub returns : goal.returns
returns c = sym (c.loop-after_it.invariant ∙ ap (bytes_after_star []) c.in_default.ensures.parts ∙ after_no_star [] c.loop-after_it.remaining.now)
