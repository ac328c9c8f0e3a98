use Rattle.std.proofs.Common.{◌∙◌, ℕ, List, ◌++◌, get_or, ap, sym, arith}
use Rattle.lf_density.specs.Density.{utilization}
use Rattle.lf_density.proofs.BinLists.{one_bin_more}
use Rattle.lf_density.proofs.fullest.utilizations.Goals as goal

pub loop-at-preserved : goal.loop-at-preserved
loop-at-preserved c =
    let f = λ (k : ℕ). utilization c.args.area (get_or c.args.usable.now k 0) (get_or c.args.used.now k 0) in
    record {
      is = c.in_ok-push_utilization.ensures.is ∙ ap (λ (xs : List ℕ). xs ++ f c.loop-at.at) c.loop-at.invariant.is ∙ sym (one_bin_more f c.loop-at.at);
      few = omega (arith, c.in_ok-push_utilization.ensures.few, c.loop-at.invariant.few);
    }
