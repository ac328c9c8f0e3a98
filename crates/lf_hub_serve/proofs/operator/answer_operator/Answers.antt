use Rattle.std.proofs.Common.{◌≡◌, ℕ, List, [], ◌∷◌, ◌++◌, true, ap, ◌∙◌, sym, arith, append_assoc}
use Rattle.std.proofs.lemmas.Grind.{common_steps}
use Rattle.std.specs.Prelude.{codes}
use Rattle.lf_hub_wire.specs.Calls.{Call, Ordered, Told}
use Rattle.lf_hub_serve.proofs.operator.answer_operator.Goals as goal

pub returns-then-is_stop-clause-stopped : goal.returns-then-is_stop-clause-stopped
returns-then-is_stop-clause-stopped g c is =
    let orders = g.W.Wire.orders c.args.server.now.wire in
    let reply : List ℕ = codes "ok" ++ 10 ∷ [] in
    let taken : c.take_order.result ≡ true = grind (arith, common_steps, c.if-not-take_order.false) in
    let line : c.take_order.new.line.items ≡ codes "stop" = sym c.as_slice.ensures.value ∙ c.is_stop.ensures c.if-is_stop.true in (
      orders,
      c.answer_order.ensures.orders ∙ ap (λ (l : List Call). l ++ Told reply ∷ []) (c.take_order.ensures.some taken)
          ∙ append_assoc orders (Ordered c.take_order.new.line.items ∷ []) (Told reply ∷ [])
          ∙ ap (λ (b : List ℕ). orders ++ Ordered b ∷ Told reply ∷ []) line,
    )
