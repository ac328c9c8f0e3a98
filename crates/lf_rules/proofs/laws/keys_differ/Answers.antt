use Rattle.lf_rules.proofs.Order.{same_spot}
use Rattle.lf_rules.proofs.SiteLemmas.{rank_decides, four_of_upright}
use Rattle.lf_rules.proofs.laws.keys_differ.Goals as goal

pub returns : goal.returns
returns c target p q first second same =
    same_spot p q same.x_is same.y_is (rank_decides p.orient q.orient (four_of_upright p.orient first) (four_of_upright q.orient second) same.rank_is)
