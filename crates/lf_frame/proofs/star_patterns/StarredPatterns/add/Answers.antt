use Rattle.std.proofs.Common.{refl}
use Rattle.std.proofs.lemmas.Result.{on_ok_weaker}
use Rattle.lf_frame.proofs.TwoEnds.{has_more_at_front, has_more_at_back}
use Rattle.lf_frame.proofs.star_patterns.StarredPatterns.add.Goals as goal

pub returns-then-is_empty : goal.returns-then-is_empty
returns-then-is_empty c =
    on_ok_weaker c.add.result (has_more_at_back c.args.self.now (record { fronts = c.args.self.now.fronts; backs = c.add.new.self })
    (record { pattern = c.args.pattern.now; fence = c.args.fence }) refl) c.add.ensures

pub returns : goal.returns
returns c =
    on_ok_weaker c.add-2.result (has_more_at_front c.args.self.now (record { fronts = c.add-2.new.self; backs = c.args.self.now.backs })
    (record { pattern = c.args.pattern.now; fence = c.args.fence }) refl) c.add-2.ensures
