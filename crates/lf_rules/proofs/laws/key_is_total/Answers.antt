use Rattle.lf_rules.proofs.Order.{compared, not_itself, through}
use Rattle.lf_rules.proofs.SiteLemmas.{rank_decides, four_of_upright}
use Rattle.lf_rules.proofs.laws.key_is_total.Goals as goal

pub returns : goal.returns
returns c = record {
  not_itself = not_itself;
  through = through;
  total = λ target p q first second.
      compared target p q (rank_decides p.orient q.orient (four_of_upright p.orient first) (four_of_upright q.orient second));
}
