use Rattle.std.proofs.Common.{◌≡◌, rules}
use Rattle.std.proofs.lemmas.List.Sorted.{answers_always}
use Rattle.lf_segments.proofs.HeightLemmas.{precedes_of_sorted}
use Rattle.lf_segments.proofs.rows_by_y.sort_by_y.Goals as goal

pub returns-clause-sorted : goal.returns-clause-sorted
returns-clause-sorted c =
    precedes_of_sorted c.sort_unstable_by_key.new.self.items
    (c.sort_unstable_by_key.ensures.sorted (λ e. (e.y, e.x)) (answers_always _ (λ a r. r ≡ (a.0.now.y, a.0.now.x)) _ (λ f a r q k. search rules)))
