use Rattle.lf_frame.proofs.Indexes.{holds_nothing}
use Rattle.lf_frame.proofs.pattern_index.PatternIndex.new.Goals as goal

pub returns : goal.returns
returns c = holds_nothing (record { literals = c.in_ok-new.field-0; starred = c.new-2.result }) (c.in_ok-new.ensures {u = tt}) c.new-2.ensures
