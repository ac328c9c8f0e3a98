use Rattle.std.proofs.Common.{length, ◌/◌, List, subst, arith, length-append}
use Rattle.std.specs.Prelude.{All}
use Rattle.lf_units.specs.Packed.{IsBound, IsTree}
use Rattle.lf_units.specs.declared.placed.Placed.{Placed}
use Rattle.lf_units.proofs.TreeBounds.{bounds_both}
use Rattle.lf_units.proofs.Trees.{joined_tree, without_bounds}
use Rattle.lf_units.proofs.bounds_above.+bind.Goals as goal

pub returns-in_default-clause-tree : goal.returns-in_default-clause-tree
returns-in_default-clause-tree t c = without_bounds c.args.boxes.now c.args.bounds.now c.in_default.ensures.cases

pub returns : goal.returns
returns t c =
    let boxes = c.args.boxes.now in
    let half = length boxes / 2 in
    let first = c.bind-of_first.new.bounds in
    let last = c.bind-of_last.new.bounds in
    let all : All (IsBound c.joined-joined.result) boxes =
    bounds_both c.bind-of_first.result c.bind-of_last.result c.joined-joined.result boxes half
    (subst (λ (xs : List Placed). All (IsBound c.bind-of_first.result) xs) c.split_at.ensures.front c.bind-of_first.ensures.bound)
    (subst (λ (xs : List Placed). All (IsBound c.bind-of_last.result) xs) c.split_at.ensures.back c.bind-of_last.ensures.bound)
    c.joined-joined.ensures.the_same c.joined-joined.ensures.the_others in
    record {
      tree = joined_tree boxes c.joined-joined.result first last all (simp length-append (omega arith))
          (subst (λ (xs : List Placed). IsTree xs first) c.split_at.ensures.front c.bind-of_first.ensures.tree)
          (subst (λ (xs : List Placed). IsTree xs last) c.split_at.ensures.back c.bind-of_last.ensures.tree);
      bound = all;
    }
