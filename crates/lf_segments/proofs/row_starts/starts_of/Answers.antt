use Rattle.std.proofs.Common.{◌∙◌, ℕ, List, length, get_or, ap, subst, sym, arith}
use Rattle.lf_segments.specs.RowStarts.{IsStartOf, rows_of}
use Rattle.lf_segments.proofs.StartLemmas.{starts_all, starts_more}
use Rattle.lf_segments.proofs.row_starts.starts_of.Goals as goal

pub loop-row-init : goal.loop-row-init
loop-row-init c = record {
  many = ap (λ (ns : List ℕ). length ns) c.in_ok-starts.ensures.items;
  each = λ r d less. absurd (omega (arith, less));
}

pub loop-row-preserved : goal.loop-row-preserved
loop-row-preserved c =
    let pushed = c.in_ok-push.ensures.items in
    let more = starts_more (rows_of c.args.segments.now) c.loop-row.starts.items c.loop-row.row c.count_earlier.result c.loop-row.invariant.many
    c.loop-row.invariant.each c.count_earlier.ensures in
    let many = c.loop-row.invariant.many in
    let one = more.0 in
    record {
      many = ap (λ (ns : List ℕ). length ns) pushed ∙ one;
      each = λ r d less. subst (λ (ns : List ℕ). IsStartOf (rows_of c.args.segments.now) r (get_or ns r d)) (sym pushed) (more.1 r d less);
    }

pub returns : goal.returns
returns c =
    starts_all c.args.segments.now c.loop-row.starts.items c.args.rows c.loop-row.row c.loop-row.invariant.many c.loop-row-test.false c.requires.known
    c.loop-row.invariant.each
