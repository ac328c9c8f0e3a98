use Rattle.std.proofs.Common.{◌≡◌, ◌<◌, ◌+◌, ◌-◌, ◌∙◌, ◌++◌, ◌∷◌, [], ℕ, List, Some, None, sym, ap, drop, take, length, arith, length-drop}
use Rattle.std.proofs.lemmas.List.{drop-drop, take_rest}
use Rattle.std.specs.List.{position, position_or_len}
use Rattle.lf_hub_clients.specs.Lines.{is_line_feed}
use Rattle.lf_hub_clients.specs.Stored.{stored_lines, stored_begun}
use Rattle.lf_hub_clients.proofs.Storing.{lines-first, begun-first, line-has-feed, feed-at, no-feed-at}
use Rattle.lf_hub_clients.proofs.line_queue.LineQueue.take_line.Goals as goal

-- the part of a buffer that is stored
part : (r items : List ℕ) (start : ℕ) → r ≡ items → take (length r - start) (drop start r) ≡ drop start items
part r items start is = take_rest r start ∙ ap (drop start) is

-- the first line of the stored part, and what follows it
record Found (items : List ℕ) (start len : ℕ) : Type 0 where
  lines : stored_lines [] (drop start items) ≡ take len (drop start items) ∷ stored_lines [] (drop (start + (len + 1)) items)
  begun : stored_begun [] (drop start items) ≡ stored_begun [] (drop (start + (len + 1)) items)
  within : len < length (drop start items)

found : (r items : List ℕ) (start len : ℕ) → r ≡ items → Some len ≡ position is_line_feed (take (length r - start) (drop start r)) → Found items start len
found r items start len is at =
    let text = drop start items in
    let here = feed-at text len (ap (position is_line_feed) (sym (part r items start is)) ∙ sym at) in
    let rest : drop (position_or_len is_line_feed text + 1) text ≡ drop (start + (len + 1)) items =
    ap (λ k. drop (k + 1) text) (sym here.1) ∙ drop-drop (len + 1) start items in
    record {
      lines = lines-first [] text here.0 ∙ ap (λ k. take k text ∷ stored_lines [] (drop (position_or_len is_line_feed text + 1) text)) (sym here.1) ∙ ap (λ t. take len text ∷ stored_lines [] t) rest;
      begun = begun-first [] text here.0 ∙ ap (stored_begun []) rest;
      within = omega (arith, here.0, here.1);
    }

pub unreachable-requires : goal.unreachable-requires
unreachable-requires c =
    let text = drop c.self.inside.start c.self.inside.bytes.items in
    let none : position is_line_feed text ≡ None =
    ap (position is_line_feed) (sym (part c.deref.result.now c.self.inside.bytes.items c.self.inside.start c.deref.ensures.value)) ∙ sym c.first_line_feed.ensures.at ∙ c.in_default.is in
    let some : 0 < length (stored_lines [] text) = omega (arith, c.self.invariant.2, c.if-self-eq0.false) in
    no-feed-at text none (line-has-feed [] text some)

pub invariant_of-self : goal.invariant_of-self
invariant_of-self c =
    let f = found c.deref.result.now c.self.inside.bytes.items c.self.inside.start c.in-Some.len c.deref.ensures.value c.in-Some.ensures.at in
    let long = length-drop c.self.inside.start c.self.inside.bytes.items in (
      omega (arith, f.within, long, c.self.inside.bytes.ok.0, c.self.invariant.0),
      omega (arith, c.self.invariant.1),
      omega (arith, ap length f.lines, c.self.invariant.2),
      c.self.invariant.3 ∙ ap length f.begun,
    )

pub returns-clause-taken : goal.returns-clause-taken
returns-clause-taken c = λ _.
    let f = found c.deref.result.now c.self.inside.bytes.items c.self.inside.start c.in-Some.len c.deref.ensures.value c.in-Some.ensures.at in
    let line : c.extend_from_slice.new.self.items ≡ take c.in-Some.len (drop c.self.inside.start c.self.inside.bytes.items) =
    c.in_ok-extend_from_slice.ensures.items ∙ ap (λ l. l ++ take c.in-Some.len (take (length c.deref.result.now - c.self.inside.start) (drop c.self.inside.start c.deref.result.now))) c.clear.ensures.items
    ∙ ap (take c.in-Some.len) (part c.deref.result.now c.self.inside.bytes.items c.self.inside.start c.deref.ensures.value) in
    ap (λ v. v.lines) (sym c.self.view_is) ∙ f.lines ∙ ap (λ l. l ∷ stored_lines [] (drop (c.self.inside.start + (c.in-Some.len + 1)) c.self.inside.bytes.items)) (sym line)

pub returns-clause-begun : goal.returns-clause-begun
returns-clause-begun c =
    let f = found c.deref.result.now c.self.inside.bytes.items c.self.inside.start c.in-Some.len c.deref.ensures.value c.in-Some.ensures.at in
    sym f.begun ∙ ap (λ v. v.begun) c.self.view_is
