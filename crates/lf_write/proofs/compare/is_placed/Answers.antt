use Rattle.std.proofs.Common.{◌++◌, [], sym}
use Rattle.lf_orient.specs.Words.{orient_word}
use Rattle.lf_write.proofs.compare.is_placed.Goals as goal

pub returns-in-None : goal.returns-in-None
returns-in-None c = sym (c.in-None.ensures (orient_word c.args.at.now.orient ++ []))
