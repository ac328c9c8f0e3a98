use Rattle.std.proofs.Common.{◌<◌, ◌++◌, [], ◌∷◌, length, refl, ap, ◌∙◌, arith}
use Rattle.std.proofs.lemmas.Option.{slice_get_within, get_or_from_slice_get}
use Rattle.lf_frame.proofs.star_patterns.push_at.Goals as goal

pub returns-in_ok-push : goal.returns-in_ok-push
returns-in_ok-push c = λ before there. (
  c.push.new.self,
  c.in_ok-push.ensures.items ∙ ap (λ v. v.items ++ c.args.bound ∷ []) (c.in-Some.ensures.item.3.1 before ∙ get_or_from_slice_get c.args.all.now.items c.args.place before before there),
  refl,
)

pub returns-in_default : goal.returns-in_default
returns-in_default c = λ before there.
    let within : c.args.place < length c.args.all.now.items = slice_get_within c.args.all.now.items c.args.place before there in
    absurd (omega (arith, c.in_default.ensures.item.3))
