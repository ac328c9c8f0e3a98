use Rattle.lf_state_text.specs.Pieces.{rest}
use Rattle.lf_state_text.proofs.Within.{below-within}
use Rattle.lf_state_text.proofs.read.numbers_at.Goals as goal

pub padding_of-requires : goal.padding_of-requires
padding_of-requires c = below-within 17 32 (rest c.below_at.new.cursor) (c.in_ok-sites.sites, rest c.below_at-2.new.cursor) c.in_ok-sites.ensures.read
