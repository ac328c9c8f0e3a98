use Rattle.std.proofs.Common.{List, sym, subst}
use Rattle.lf_units.specs.declared.span.Span.{Span}
use Rattle.lf_units.specs.Spans.{IsMinus, IsRising}
use Rattle.lf_legalize.proofs.SoftLemmas.{first_none, first_next, first_end}
use Rattle.lf_legalize.proofs.open_spans.without_soft.Goals as goal

pub loop-n-init : goal.loop-n-init
loop-n-init c = first_none c.args.index.now.soft c.args.near.now.start c.args.near.now.end c.args.free.items c.requires.free

pub without-requires-clause-spans : goal.without-requires-clause-spans
without-requires-clause-spans c = c.loop-n.invariant.rising

pub without-requires-clause-soft : goal.without-requires-clause-soft
without-requires-clause-soft c = subst IsRising (sym c.soft_of.ensures) (c.requires.soft c.loop-n.n)

pub loop-n-preserved : goal.loop-n-preserved
loop-n-preserved c =
    first_next c.args.index.now.soft c.args.near.now.start c.loop-n.n c.args.near.now.end c.args.free.items c.loop-n.left.items c.in_ok-left.left.items
    c.loop-n.auto.n c.loop-n-test.true c.loop-n.invariant
    (subst (λ (soft : List Span). IsMinus c.loop-n.left.items soft c.in_ok-left.left.items) c.soft_of.ensures c.in_ok-left.ensures)

pub returns : goal.returns
returns c =
    first_end c.args.index.now.soft c.args.near.now.start c.loop-n.n c.args.near.now.end c.args.free.items c.loop-n.left.items c.loop-n-test.false
    c.loop-n.invariant
