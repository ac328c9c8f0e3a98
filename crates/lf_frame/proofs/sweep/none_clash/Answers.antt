use Rattle.lf_frame.proofs.Pieces.{none_in_any_order}
use Rattle.lf_frame.proofs.sweep.none_clash.Goals as goal

pub returns : goal.returns
returns c =
    let order = none_in_any_order c.args.pieces.now c.sort_upwards.new.pieces c.sort_upwards.ensures.same in
    (λ t. order.0 (c.none_clash_upwards.ensures.0 t), λ h. c.none_clash_upwards.ensures.1 (order.1 h))
