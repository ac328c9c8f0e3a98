use Rattle.std.proofs.Common.{◌∙◌}
use Rattle.lf_describe.proofs.description.write_description.Goals as goal

pub returns-in-Ok-clause-clean : goal.returns-in-Ok-clause-clean
returns-in-Ok-clause-clean g c =
    λ report counts. c.is_clean.ensures report (c.counts_in.ensures.illegal ∙ counts.illegal) (c.counts_in.ensures.unplaced ∙ counts.unplaced)
