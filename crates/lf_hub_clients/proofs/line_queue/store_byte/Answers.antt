use Rattle.std.proofs.Common.{◌≡◌, ◌+◌, ◌∙◌, drop, length, [], sym, ap, arith}
use Rattle.lf_hub_clients.specs.Stored.{stored_begun}
use Rattle.lf_hub_clients.specs.Lines.{line_limit}
use Rattle.std.specs.Prelude.{nat_lt, true}
use Rattle.lf_hub_clients.proofs.Storing.{feed-taken, more-taken, feed-begun, more-begun, one-more, lines-count, begun-count, begun-feed, lines-more, is-feed, no-feed, short}
use Rattle.lf_hub_clients.proofs.line_queue.store_byte.Goals as goal

pub returns-then-byte-eq10-clause-lines : goal.returns-then-byte-eq10-clause-lines
returns-then-byte-eq10-clause-lines c = λ rest.
    let text = drop c.args.start c.args.bytes.now.items in
    let stored = one-more c.args.bytes.now.items c.add.new.bytes.items c.args.start c.args.byte c.add.ensures.items (omega (arith, c.args.bytes.now.ok.0)) in
    rw stored (feed-taken text rest c.args.byte (is-feed c.args.byte c.if-byte-eq10.true))

pub returns-then-byte-eq10-clause-begun_line : goal.returns-then-byte-eq10-clause-begun_line
returns-then-byte-eq10-clause-begun_line c = λ rest.
    let text = drop c.args.start c.args.bytes.now.items in
    let stored = one-more c.args.bytes.now.items c.add.new.bytes.items c.args.start c.args.byte c.add.ensures.items (omega (arith, c.args.bytes.now.ok.0)) in
    rw stored (feed-begun text rest c.args.byte (is-feed c.args.byte c.if-byte-eq10.true))

pub returns-then-byte-eq10-clause-count : goal.returns-then-byte-eq10-clause-count
returns-then-byte-eq10-clause-count c =
    let text = drop c.args.start c.args.bytes.now.items in
    let stored = one-more c.args.bytes.now.items c.add.new.bytes.items c.args.start c.args.byte c.add.ensures.items (omega (arith, c.args.bytes.now.ok.0)) in
    rw stored (ap (λ n. n + 1) c.requires.count ∙ sym (lines-count text c.args.byte (is-feed c.args.byte c.if-byte-eq10.true)))

pub returns-then-byte-eq10-clause-begun : goal.returns-then-byte-eq10-clause-begun
returns-then-byte-eq10-clause-begun c =
    let text = drop c.args.start c.args.bytes.now.items in
    let stored = one-more c.args.bytes.now.items c.add.new.bytes.items c.args.start c.args.byte c.add.ensures.items (omega (arith, c.args.bytes.now.ok.0)) in
    rw stored (sym (ap length (begun-feed [] text c.args.byte (is-feed c.args.byte c.if-byte-eq10.true))))

pub returns-clause-lines : goal.returns-clause-lines
returns-clause-lines c = λ rest.
    let text = drop c.args.start c.args.bytes.now.items in
    let stored = one-more c.args.bytes.now.items c.add-2.new.bytes.items c.args.start c.args.byte c.add-2.ensures.items (omega (arith, c.args.bytes.now.ok.0)) in
    let fits : nat_lt (length (stored_begun [] text)) line_limit ≡ true = short (length (stored_begun [] text)) (omega (arith, c.requires.begun, c.if-begun-ge-LINE.false)) in
    rw stored (more-taken text rest c.args.byte (no-feed c.args.byte c.if-byte-eq10.false) fits)

pub returns-clause-begun_line : goal.returns-clause-begun_line
returns-clause-begun_line c = λ rest.
    let text = drop c.args.start c.args.bytes.now.items in
    let stored = one-more c.args.bytes.now.items c.add-2.new.bytes.items c.args.start c.args.byte c.add-2.ensures.items (omega (arith, c.args.bytes.now.ok.0)) in
    let fits : nat_lt (length (stored_begun [] text)) line_limit ≡ true = short (length (stored_begun [] text)) (omega (arith, c.requires.begun, c.if-begun-ge-LINE.false)) in
    rw stored (more-begun text rest c.args.byte (no-feed c.args.byte c.if-byte-eq10.false) fits)

pub returns-clause-count : goal.returns-clause-count
returns-clause-count c =
    let text = drop c.args.start c.args.bytes.now.items in
    let stored = one-more c.args.bytes.now.items c.add-2.new.bytes.items c.args.start c.args.byte c.add-2.ensures.items (omega (arith, c.args.bytes.now.ok.0)) in
    rw stored (c.requires.count ∙ sym (ap length (lines-more [] text c.args.byte (no-feed c.args.byte c.if-byte-eq10.false))))

pub returns-clause-begun : goal.returns-clause-begun
returns-clause-begun c =
    let text = drop c.args.start c.args.bytes.now.items in
    let stored = one-more c.args.bytes.now.items c.add-2.new.bytes.items c.args.start c.args.byte c.add-2.ensures.items (omega (arith, c.args.bytes.now.ok.0)) in
    rw stored (ap (λ n. n + 1) c.requires.begun ∙ sym (begun-count text c.args.byte (no-feed c.args.byte c.if-byte-eq10.false)))
