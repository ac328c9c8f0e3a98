use Rattle.std.proofs.Common.{◌∙◌, ℕ, ◌+◌, ◌*◌, ◌/◌, ◌<◌, get_or, refl, ap, arith, subst}
use Rattle.lf_density.specs.Bins.{area_in, capped, past, shared_with}
use Rattle.lf_density.proofs.Bins.{area_by, each_is_small, no_area_up, none_after, none_before, rows_begin, rows_end, rows_go_on}
use Rattle.lf_density.proofs.areas.add_box.Goals as goal

pub loop-row-init : goal.loop-row-init
loop-row-init c =
    let g = c.args.grid.now in
    let box = c.args.rect.now in
    let y1 = past g.bottom box.y1 in
    let y2 = past g.bottom box.y2 in
    record {
      many = refl;
      so_far = rows_begin g.columns g.rows (λ column row. area_in g column row box) c.args.areas.now.items (c.past-y1.result / g.side)
          (each_is_small c.args.areas.now.items (λ k within. let fits = c.type_inv.areas k 0 within in omega (arith, fits)))
          (λ column row less. no_area_up _ (shared_with g.side y1 y2 row)
          (none_before g.side y1 y2 row (subst (λ (n : ℕ). row < n / g.side) c.past-y1.ensures less)));
    }

pub loop-row-preserved : goal.loop-row-preserved
loop-row-preserved c =
    let g = c.args.grid.now in
    let box = c.args.rect.now in
    let i = c.loop-row.row in
    let now = c.loop-row.areas.items in
    record {
      many = c.add_to_row.ensures.many ∙ c.loop-row.invariant.many;
      so_far = rows_go_on g.columns g.rows (λ column row. area_in g column row box) c.args.areas.now.items now c.add_to_row.new.areas.items i c.loop-row.invariant.so_far
          (omega (arith, c.loop-row-test.true, c.min-end.ensures))
          (λ column within. c.add_to_row.ensures.here column within
          ∙ ap (λ (n : ℕ). capped (get_or now (i * g.columns + column) 0 + n))
          (area_by g column i box c.past-x1.result c.past-x2.result c.past-y1.result c.past-y2.result c.shared_with-high.result c.past-x1.ensures c.past-x2.ensures c.past-y1.ensures c.past-y2.ensures
          c.shared_with-high.ensures.is))
          (λ column other within differ. c.add_to_row.ensures.others column other within differ);
    }

pub returns-clause-each : goal.returns-clause-each
returns-clause-each c =
    let g = c.args.grid.now in
    let box = c.args.rect.now in
    let y1 = past g.bottom box.y1 in
    let y2 = past g.bottom box.y2 in
    rows_end g.columns g.rows (λ column row. area_in g column row box) c.args.areas.now.items c.loop-row.areas.items c.loop-row.row c.loop-row.invariant.so_far
    (λ column row least below. no_area_up _ (shared_with g.side y1 y2 row)
    (none_after g.side y1 y2 row c.requires.small.positive
    (subst (λ (n : ℕ). n / g.side < row) c.past-y2.ensures
    (omega (arith, least, below, c.requires.small.few_rows, c.loop-row-test.false, c.min-end.ensures, c.saturating_add.ensures)))))
