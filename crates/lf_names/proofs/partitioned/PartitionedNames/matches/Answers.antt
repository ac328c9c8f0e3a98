use Rattle.lf_names.proofs.PartViews.{view_borrowed}
use Rattle.lf_names.proofs.partitioned.PartitionedNames.matches.Goals as goal

pub returns-clause-differ : goal.returns-clause-differ
returns-clause-differ c =
    let own = view_borrowed c.args.self.now _ c.deref.result.now c.self.view_is c.deref.ensures.value c.self.invariant in
    let asks = view_borrowed c.args.requested.now _ c.deref-2.result.now c.requested.view_is c.deref-2.ensures.value c.requested.invariant in
    c.match_parts.ensures.differ c.args.self.now c.args.requested.now own asks

pub returns-clause-matches : goal.returns-clause-matches
returns-clause-matches c =
    let own = view_borrowed c.args.self.now _ c.deref.result.now c.self.view_is c.deref.ensures.value c.self.invariant in
    let asks = view_borrowed c.args.requested.now _ c.deref-2.result.now c.requested.view_is c.deref-2.ensures.value c.requested.invariant in
    c.match_parts.ensures.matches c.args.self.now c.args.requested.now own asks

pub returns-clause-many : goal.returns-clause-many
returns-clause-many c =
    let own = view_borrowed c.args.self.now _ c.deref.result.now c.self.view_is c.deref.ensures.value c.self.invariant in
    let asks = view_borrowed c.args.requested.now _ c.deref-2.result.now c.requested.view_is c.deref-2.ensures.value c.requested.invariant in
    c.match_parts.ensures.many c.args.self.now c.args.requested.now own asks

pub returns-clause-none : goal.returns-clause-none
returns-clause-none c =
    let own = view_borrowed c.args.self.now _ c.deref.result.now c.self.view_is c.deref.ensures.value c.self.invariant in
    let asks = view_borrowed c.args.requested.now _ c.deref-2.result.now c.requested.view_is c.deref-2.ensures.value c.requested.invariant in
    c.match_parts.ensures.none c.args.self.now c.args.requested.now own asks
