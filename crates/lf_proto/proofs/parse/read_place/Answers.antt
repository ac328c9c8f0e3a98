use Rattle.std.proofs.Common.{◌≡◌, Some, rules, sym, ap, ◌∙◌}
use Rattle.lf_proto.proofs.Places.{place_written-some}
use Rattle.lf_proto.proofs.parse.read_place.Goals as goal

pub returns : goal.returns
returns c =
    let x_is : c.in_ok-x.x ≡ c.new.result.x = search rules in
    let y_is : c.in_ok-y.y ≡ c.new.result.y = search rules in
    sym (place_written-some c.args.x.now c.args.y.now c.args.orient.now c.new.result
    (sym c.in_ok-x.ensures.value ∙ ap Some x_is)
    (sym c.in_ok-y.ensures.value ∙ ap Some y_is)
    (sym c.in_ok-orient.ensures ∙ ap Some (sym c.new.ensures.orient_is)))
