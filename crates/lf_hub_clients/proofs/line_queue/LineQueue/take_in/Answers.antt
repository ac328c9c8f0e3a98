use Rattle.std.proofs.Common.{◌≡◌, ◌≤◌, ◌+◌, ◌-◌, ◌∙◌, [], ℕ, List, sym, ap, subst, drop, take, length, arith, length-drop, length-take}
use Rattle.std.proofs.lemmas.List.{drop-drop}
use Rattle.lf_hub_clients.specs.Lines.{waiting_size, waiting_limit}
use Rattle.lf_hub_clients.specs.Stored.{stored_lines, stored_begun}
use Rattle.lf_hub_clients.proofs.Storing.{view-size, few-lines}
use Rattle.lf_hub_clients.proofs.line_queue.LineQueue.take_in.Goals as goal

-- the stored bytes after the first ones were removed
moved : (items after last : List ℕ) (start removed : ℕ) → removed ≤ start → after ≡ drop removed items → last ≡ after → drop (start - removed) last ≡ drop start items
moved items after last start removed within is same =
    let whole : removed + (start - removed) ≡ start = omega arith in
    ap (drop (start - removed)) (same ∙ is) ∙ drop-drop (start - removed) removed items ∙ ap (λ k. drop k items) whole

pub invariant_of-self : goal.invariant_of-self
invariant_of-self c =
    let same = moved c.self.inside.bytes.items c.compact.new.bytes.items c.reserve.new.self.items c.self.inside.start c.compact.result c.compact.ensures.within c.compact.ensures.items c.reserve.ensures.items in (
      omega (arith, c.self.invariant.0, c.compact.ensures.within, c.compact.ensures.len, c.reserve.ensures.len),
      omega (arith, c.self.invariant.0, c.self.invariant.1, c.compact.ensures.within, c.compact.ensures.len, c.reserve.ensures.len),
      c.self.invariant.2 ∙ ap (λ t. length (stored_lines [] t)) (sym same),
      c.self.invariant.3 ∙ ap (λ t. length (stored_begun [] t)) (sym same),
    )

pub store-requires-clause-within : goal.store-requires-clause-within
store-requires-clause-within c =
    let text = drop c.self.inside.start c.self.inside.bytes.items in
    omega (arith, c.self.invariant.0, c.self.invariant.2, few-lines [] text, length-drop c.self.inside.start c.self.inside.bytes.items, c.self.inside.bytes.ok.0, c.compact.ensures.within, c.compact.ensures.len, c.reserve.ensures.len)

-- the stored bytes are within the limit
pub invariant_of-self-2 : goal.invariant_of-self-2
invariant_of-self-2 c =
    let text = drop c.self.inside.start c.self.inside.bytes.items in
    let size : waiting_size c.args.self.now ≡ length text = ap waiting_size (sym c.self.view_is) ∙ view-size text in
    let long = length-drop c.self.inside.start c.self.inside.bytes.items in
    let piece : length (take c.min-count.result c.args.bytes.now) ≤ c.min-count.result = omega (arith, length-take c.min-count.result c.args.bytes.now) in (
      omega (arith, c.self.invariant.0, c.compact.ensures.within, c.compact.ensures.len, c.reserve.ensures.len, c.store.ensures.grows),
      omega (arith, c.self.invariant.0, c.compact.ensures.within, c.compact.ensures.len, c.reserve.ensures.len, c.store.ensures.len, c.room.ensures.room, c.min-count.ensures, size, long, piece, c.self.inside.bytes.ok.0),
      c.store.ensures.count,
      c.store.ensures.begun,
    )

pub returns-clause-size : goal.returns-clause-size
returns-clause-size c =
    let after = drop (c.self.inside.start - c.compact.result) c.store.new.bytes.items in
    let within = (invariant_of-self-2 c).1 in
    subst (λ n. n ≤ waiting_limit) (sym (view-size after))
    (omega (arith, within, length-drop (c.self.inside.start - c.compact.result) c.store.new.bytes.items, c.store.new.bytes.ok.0))
