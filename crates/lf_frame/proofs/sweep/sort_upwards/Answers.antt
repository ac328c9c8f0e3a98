use Rattle.std.proofs.Common.{rules}
use Rattle.std.proofs.lemmas.List.Sorted.{answers_always}
use Rattle.lf_frame.proofs.Pieces.{rise_of_sorted}
use Rattle.lf_frame.proofs.sweep.sort_upwards.Goals as goal

pub returns-clause-rise : goal.returns-clause-rise
returns-clause-rise c =
    rise_of_sorted c.sort_unstable_by_key.new.self (c.sort_unstable_by_key.ensures.sorted (λ p. p.bottom) (answers_always _ _ _ (λ f a r g h. search rules)))
