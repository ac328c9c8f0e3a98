use Rattle.std.proofs.Common.{Option, subst, sym}
use Rattle.lf_units.specs.declared.geometry.Rect.{Rect}
use Rattle.lf_occupancy.specs.StripCounting.{IsLower}
use Rattle.lf_occupancy.proofs.Tallying.{lower_of_reached}
use Rattle.lf_occupancy.specs.Widened.{all_widened}
use Rattle.lf_occupancy.proofs.strip_counts.lower.Goals as goal

pub returns-in-Some : goal.returns-in-Some
returns-in-Some c =
    let xs = all_widened c.args.strips.now in
    subst (λ (from : Option Rect). IsLower xs c.args.team from c.args.counts.now.items c.lower_rows.new.counts.items) (sym c.in-Some.is)
    (lower_of_reached xs c.distinct_rows-rows.result.rows.now c.args.team c.in-Some.rect c.args.counts.now.items c.lower_rows.new.counts.items c.requires
    c.lower_rows.ensures)
