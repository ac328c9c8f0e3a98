use Rattle.lf_write.proofs.Kept.{ready_for, same_text}
use Rattle.lf_write.proofs.laws.kept_clauses_suffice.Goals as goal

pub returns : goal.returns
returns c = record {
  same = λ text components places can. same_text text components places can;
  ready = λ text d places e can. ready_for text d.components places (c.components_rise.ensures text d e) can;
}
