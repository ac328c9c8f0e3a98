use Rattle.std.proofs.Common.{◌≡◌, ◌<◌, ◌∙◌, ap, sym, get_or, set, subst, arith}
use Rattle.std.specs.Prelude.{vec_len}
use Rattle.lf_names.specs.NameParts.{StoresNames, part_of, part_count}
use Rattle.lf_names.proofs.PartLemmas.{pushed, kept_in_part, part_within}
use Rattle.std.proofs.lemmas.Result.{err_from_is_err_and}
use Rattle.lf_names.proofs.partitioned.push_in_part.Goals as goal

pub returns-clause-ok : goal.returns-clause-ok
returns-clause-ok c = λ names before.
    let old = c.args.parts.now.items in
    let part = c.in-Some.part.now in
    let place = c.part_of.ensures.part in
    let part_is : part ≡ get_or old (part_of c.args.name.now) part = c.in-Some.ensures.value ∙ ap (λ k. get_or old k part) place in
    pushed names (record { label = c.args.label; name = c.args.name.now }) old _ part c.push.new.self before
    (λ own keeps. c.in_ok-push.ensures.ok own (subst (λ s. StoresNames s own) (sym part_is) keeps)) (ap (λ k. set old k c.push.new.self) place)

pub returns-in_err-push-clause-err : goal.returns-in_err-push-clause-err
returns-in_err-push-clause-err c = λ names before.
    let old = c.args.parts.now.items in
    let part = c.in-Some.part.now in
    let place = c.part_of.ensures.part in
    let part_is : part ≡ get_or old (part_of c.args.name.now) part = c.in-Some.ensures.value ∙ ap (λ k. get_or old k part) place in
    let p = err_from_is_err_and c.from_residual.result c.from_residual.ensures.1 in
    rw p.1 (
    kept_in_part names (part_of c.args.name.now) old _ part c.push.new.self before (part_within c.args.name.now)
    (λ own keeps. c.in_err-push.ensures.err own (subst (λ s. StoresNames s own) (sym part_is) keeps))
    (ap (λ k. set old k c.push.new.self) place)
    )

pub returns-in_default : goal.returns-in_default
returns-in_default c =
    let within : c.part_of.result < part_count = c.part_of.ensures.within in
    record {
      ok = λ names before.
          let below : c.part_of.result < vec_len c.args.parts.now = omega (arith, before.many, c.args.parts.now.ok) in
          let absent = (c.in_default.ensures {u = tt}).variant.1 below in
          absurd (cc);
      err = λ names before. tt;
    }
