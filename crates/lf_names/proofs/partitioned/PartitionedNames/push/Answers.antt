use Rattle.std.proofs.Common.{◌∷◌, ◌++◌, [], ◌∙◌, subst}
use Rattle.std.specs.List.Sorted.{IsPermutation}
use Rattle.lf_names.specs.NameParts.{names_of_parts}
use Rattle.lf_names.proofs.PartViews.{view_kept, view_same, view_permuted}
use Rattle.std.proofs.lemmas.Result.{err_from_is_err_and}
use Rattle.lf_names.proofs.partitioned.PartitionedNames.push.Goals as goal

pub invariant_of-self : goal.invariant_of-self
invariant_of-self c = view_kept (names_of_parts c.self.inside.parts.items) c.push_in_part.new.parts.items
    (c.in_err-push_in_part.ensures.err (names_of_parts c.self.inside.parts.items) c.self.invariant)

pub returns-in_err-push_in_part-clause-err : goal.returns-in_err-push_in_part-clause-err
returns-in_err-push_in_part-clause-err c =
    let p = err_from_is_err_and c.from_residual.result c.from_residual.ensures.1 in
    rw p.1 (
    view_same (names_of_parts c.self.inside.parts.items) c.self.inside.parts.items c.push_in_part.new.parts.items c.self.invariant
    (c.in_err-push_in_part.ensures.err (names_of_parts c.self.inside.parts.items) c.self.invariant) ∙ c.self.view_is)

pub invariant_of-self-2 : goal.invariant_of-self-2
invariant_of-self-2 c =
    view_kept (names_of_parts c.self.inside.parts.items ++ record { label = c.args.label; name = c.args.name.now } ∷ []) c.push_in_part.new.parts.items
    (c.in_ok-push_in_part.ensures.ok (names_of_parts c.self.inside.parts.items) c.self.invariant)

pub returns-clause-ok : goal.returns-clause-ok
returns-clause-ok c =
    subst (λ names. IsPermutation (names ++ record { label = c.args.label; name = c.args.name.now } ∷ []) (names_of_parts c.push_in_part.new.parts.items))
    c.self.view_is
    (view_permuted (names_of_parts c.self.inside.parts.items ++ record { label = c.args.label; name = c.args.name.now } ∷ []) c.push_in_part.new.parts.items
    (c.in_ok-push_in_part.ensures.ok (names_of_parts c.self.inside.parts.items) c.self.invariant))
