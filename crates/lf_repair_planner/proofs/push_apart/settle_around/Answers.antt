use Rattle.std.proofs.Common.{subst, sym, arith, ◌∙◌}
use Rattle.lf_repair_planner.specs.Packing.{IsPackedWithin}
use Rattle.lf_repair_planner.proofs.Shapes.{same_width}
use Rattle.lf_repair_planner.proofs.push_apart.settle_around.Goals as goal

pub push_apart-requires : goal.push_apart-requires
push_apart-requires c =
    let e = same_width c.args.cells.now c.push_left.new.cells c.push_left.ensures.same in
    let fits = c.requires.fits in
    record { fits = omega (arith, e, fits) }

pub returns-clause-kept : goal.returns-clause-kept
returns-clause-kept c = λ p.
    let stays = c.push_left.ensures.kept c.args.start c.args.end p in
    c.push_apart.ensures.kept (subst (λ xs. IsPackedWithin c.args.start c.args.end xs) (sym stays) p) ∙ stays
