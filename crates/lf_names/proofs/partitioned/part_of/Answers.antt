use Rattle.std.proofs.Common.{◌≡◌, ◌*◌, ◌/◌, ◌%◌, ◌^◌, [], drop, ap, sym, ◌∙◌, arith}
use Rattle.std.specs.Prelude.{fold}
use Rattle.std.proofs.lemmas.Grind.{common_steps}
use Rattle.lf_names.specs.NameParts.{part_of, hash_step}
use Rattle.lf_names.proofs.partitioned.part_of.Goals as goal

pub returns-clause-part : goal.returns-clause-part
unfolding part_of
returns-clause-part c =
    let left : drop c.loop-byte.byte-index c.args.name.now ≡ [] = grind (arith, common_steps) in
    ap (λ h. h * 2654435761 % 2 ^ 32 / 2 ^ 24) (ap (fold hash_step c.loop-byte.hash) (sym left) ∙ c.loop-byte.invariant)
