use Rattle.std.proofs.Common.{◌≡◌, length, rules}
use Rattle.lf_frame.proofs.KeyLemmas.{no_length_no_pattern, no_pattern_no_length}
use Rattle.lf_frame.proofs.star_patterns.PatternsAtEnd.is_empty.Goals as goal

pub returns : goal.returns
returns c = λ bounds h. (
  λ t.
      let none : length c.args.self.now.lengths.items ≡ 0 = search rules in
      no_length_no_pattern c.args.self.now bounds none h,
  λ e.
      let none : length c.args.self.now.lengths.items ≡ 0 = no_pattern_no_length c.args.self.now bounds e h in
      search rules,
)
