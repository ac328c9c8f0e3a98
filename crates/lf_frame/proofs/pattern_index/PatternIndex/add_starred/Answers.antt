use Rattle.std.proofs.Common.{refl}
use Rattle.lf_frame.proofs.Indexes.{extends_starred}
use Rattle.lf_frame.proofs.pattern_index.PatternIndex.add_starred.Goals as goal

pub returns : goal.returns
returns c =
    extends_starred c.args.self.now (record { literals = c.args.self.now.literals; starred = c.add.new.self }) (record { pattern = c.args.pattern.now; fence = c.args.fence }) refl
    c.in_ok-add.ensures
