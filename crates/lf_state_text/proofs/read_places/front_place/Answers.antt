use Rattle.std.proofs.Common.{◌≡◌, sym, subst, rules, ℤ}
use Rattle.lf_orient.specs.declared.Orient.{Orient}
use Rattle.lf_proto.specs.Numbers.{coordinate}
use Rattle.lf_proto.specs.Requests.{orient_named}
use Rattle.lf_state_text.specs.Words.{Begins}
use Rattle.lf_state_text.proofs.Fronts.{rest-in_front, spot-in_front}
use Rattle.lf_state_text.proofs.read_places.front_place.Goals as goal

pub returns-clause-read : goal.returns-clause-read
returns-clause-read c = λ later.
    let byte = c.args.byte in
    let bytes = c.args.bytes.now in
    let rest_x = c.in_ok-x.rest.now in
    let rest_y = c.in_ok-y.rest.now in
    let rest = c.in_ok-orient.rest.now in
    let p = c.new.result in
    let x_is : c.in_ok-x.x ≡ p.x = search rules in
    let y_is : c.in_ok-y.y ≡ p.y = search rules in
    let x = subst (λ (z : ℤ). Begins coordinate 44 bytes z rest_x) x_is c.in_ok-x.ensures.value in
    let y = subst (λ (z : ℤ). Begins coordinate 44 rest_x z rest_y) y_is c.in_ok-y.ensures.value in
    let orient = subst (λ (o : Orient). Begins orient_named byte rest_y o rest) (sym c.new.ensures.orient_is) (c.in_ok-orient.ensures {u = tt}) in
    rw (rest-in_front byte bytes rest_x rest_y rest p.x p.y p.orient x y orient)
    (spot-in_front byte bytes rest_x rest_y rest later p c.requires x y orient)
