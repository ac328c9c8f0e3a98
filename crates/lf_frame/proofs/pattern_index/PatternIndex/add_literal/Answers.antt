use Rattle.std.proofs.Common.{refl}
use Rattle.lf_frame.proofs.Indexes.{extends_literal}
use Rattle.lf_frame.proofs.pattern_index.PatternIndex.add_literal.Goals as goal

pub returns : goal.returns
returns c = λ own.
    extends_literal c.args.self.now (record { literals = c.push.new.self; starred = c.args.self.now.starred })
    (record { pattern = c.args.pattern.now; fence = c.args.fence }) own c.in_ok-push.ensures.ok refl
