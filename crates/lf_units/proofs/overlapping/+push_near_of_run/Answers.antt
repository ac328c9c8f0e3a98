use Rattle.std.proofs.Common.{List, length, ◌/◌, subst}
use Rattle.std.proofs.lemmas.Bool.{false≢true}
use Rattle.lf_units.specs.Packed.{AddsNear}
use Rattle.lf_units.specs.declared.placed.Placed.{Placed}
use Rattle.lf_units.proofs.Nears.{adds_nothing, adds_of_halves}
use Rattle.lf_units.proofs.Trees.{bounded_by_first}
use Rattle.lf_units.proofs.overlapping.+push_near_of_run.Goals as goal

pub returns-then-not-overlaps : goal.returns-then-not-overlaps
returns-then-not-overlaps t c =
    adds_nothing _ c.args.boxes.now c.args.rect.now c.args.found.now.items
    (bounded_by_first c.args.boxes.now c.args.bounds.now _ _ c.in-Some.ensures.cases.0 c.requires) (λ shares. false≢true (c.if-not-overlaps.ensures.1 shares))

pub returns : goal.returns
returns t c =
    let old = c.args.found.now.items in
    let middle = c.push_near_of_run.new.found.items in
    let new = c.push_near_of_run-2.new.found.items in
    adds_of_halves c.args.boxes.now (length c.args.boxes.now / 2) c.args.rect.now old middle new
    (subst (λ (xs : List Placed). AddsNear xs c.args.rect.now old middle) c.split_at.ensures.front c.in_ok-push_near_of_run.ensures)
    (subst (λ (xs : List Placed). AddsNear xs c.args.rect.now middle new) c.split_at.ensures.back c.in_ok-push_near_of_run-2.ensures)
