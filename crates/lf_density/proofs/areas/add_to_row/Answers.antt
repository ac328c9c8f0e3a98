use Rattle.std.proofs.Common.{◌≡◌, ◌∙◌, ℕ, ◌+◌, ◌*◌, ◌/◌, List, length, set, get_or, refl, ap, arith}
use Rattle.std.proofs.lemmas.List.{length-set}
use Rattle.lf_density.specs.Bins.{capped, shared_with}
use Rattle.lf_density.proofs.Bins.{each_is_small, no_area, none_after, none_before, row_begins, row_ends, row_goes_on}
use Rattle.lf_density.proofs.areas.add_to_row.Goals as goal

pub loop-column-init : goal.loop-column-init
loop-column-init c =
    let g = c.args.grid.now in
    record {
      many = refl;
      so_far = row_begins g.columns c.args.row (λ column. shared_with g.side c.args.x1 c.args.x2 column * c.args.high) c.args.areas.now.items (c.args.x1 / g.side)
          (each_is_small c.args.areas.now.items (λ k within. let fits = c.type_inv.areas k 0 within in omega (arith, fits))) (λ column less. no_area (shared_with g.side c.args.x1 c.args.x2 column) c.args.high (none_before g.side c.args.x1 c.args.x2 column less));
    }

pub loop-column-preserved : goal.loop-column-preserved
loop-column-preserved c =
    let g = c.args.grid.now in
    let now = c.loop-column.areas.items in
    let i = c.loop-column.column in
    let at = c.args.row * g.columns + i in
    let is : c.add_at.new.areas.items ≡ set now at (capped (get_or now at 0 + shared_with g.side c.args.x1 c.args.x2 i * c.args.high)) =
    c.add_at.ensures ∙ ap (λ (n : ℕ). set now at (capped (get_or now at 0 + n * c.args.high))) c.shared_with-wide.ensures.is in
    record {
      many = ap (λ (xs : List ℕ). length xs) is ∙ length-set now at _ ∙ c.loop-column.invariant.many;
      so_far = row_goes_on g.columns g.rows c.args.row (λ column. shared_with g.side c.args.x1 c.args.x2 column * c.args.high) c.args.areas.now.items now c.add_at.new.areas.items i
          c.requires.row (omega (arith, c.loop-column-test.true, c.min-end.ensures)) (c.loop-column.invariant.many ∙ c.requires.many) c.loop-column.invariant.so_far is;
    }

pub returns-clause-here : goal.returns-clause-here
returns-clause-here c =
    let g = c.args.grid.now in
    let more = λ (column : ℕ). shared_with g.side c.args.x1 c.args.x2 column * c.args.high in
    row_ends g.columns c.args.row more c.args.areas.now.items c.loop-column.areas.items c.loop-column.column c.loop-column.invariant.so_far
    (λ column least within. no_area (shared_with g.side c.args.x1 c.args.x2 column) c.args.high
    (none_after g.side c.args.x1 c.args.x2 column c.requires.small.positive
    (omega (arith, least, within, c.requires.small.few_columns, c.loop-column-test.false, c.min-end.ensures, c.saturating_add.ensures))))
