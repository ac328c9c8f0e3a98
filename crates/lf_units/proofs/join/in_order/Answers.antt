use Rattle.std.proofs.Common.{◌≡◌, rules}
use Rattle.std.proofs.lemmas.List.Sorted.{answers_always}
use Rattle.lf_units.proofs.Orders.{in_order_of_sorted}
use Rattle.lf_units.proofs.join.in_order.Goals as goal

pub returns-clause-order : goal.returns-clause-order
returns-clause-order c =
    in_order_of_sorted c.sort_unstable_by_key.new.self.items
    (c.sort_unstable_by_key.ensures.sorted (λ s. s.lo) (answers_always _ (λ a r. r ≡ a.0.now.lo) _ (λ f a r q k. search rules)))
