use Rattle.std.proofs.Common.{List, ℕ, length, ◌/◌, subst}
use Rattle.std.specs.Prelude.{Option}
use Rattle.lf_units.specs.Packed.{IsLeastOf}
use Rattle.lf_units.specs.declared.placed.Placed.{Placed}
use Rattle.lf_units.proofs.Leasts.{least_kept, least_of_halves, least_turned}
use Rattle.lf_units.proofs.Trees.{bounded_by_first}
use Rattle.lf_units.proofs.least_overlapping.+least_among.Goals as goal

pub returns-then-not-may_be_less : goal.returns-then-not-may_be_less
returns-then-not-may_be_less t c =
    least_kept _ c.args.boxes.now c.args.rect.now c.args.but c.args.so_far
    (bounded_by_first c.args.boxes.now c.args.bounds.now _ _ c.in-Some.ensures.cases.0 c.requires) c.if-not-may_be_less.ensures

pub returns-then-likely_least : goal.returns-then-likely_least
returns-then-likely_least t c =
    let Least : Option ℕ → Option ℕ → List Placed → Type 0 = λ a b xs. IsLeastOf xs c.args.rect.now c.args.but a b in
    let middle = c.least_among-with_after.result in
    least_turned c.args.boxes.now (length c.args.boxes.now / 2) c.args.rect.now c.args.but c.args.so_far middle c.least_among.result
    (subst (Least c.args.so_far middle) c.split_at.ensures.back c.least_among-with_after.ensures)
    (subst (Least middle c.least_among.result) c.split_at.ensures.front c.least_among.ensures)

pub returns : goal.returns
returns t c =
    let Least : Option ℕ → Option ℕ → List Placed → Type 0 = λ a b xs. IsLeastOf xs c.args.rect.now c.args.but a b in
    let middle = c.least_among-with_before.result in
    least_of_halves c.args.boxes.now (length c.args.boxes.now / 2) c.args.rect.now c.args.but c.args.so_far middle c.least_among-2.result
    (subst (Least c.args.so_far middle) c.split_at.ensures.front c.least_among-with_before.ensures)
    (subst (Least middle c.least_among-2.result) c.split_at.ensures.back c.least_among-2.ensures)
