use Rattle.std.proofs.Common.{refl}
use Rattle.lf_frame.proofs.RowEdges.{not_true, not_both}
use Rattle.lf_frame.proofs.Pieces.{pieces_meet, pieces_pass}
use Rattle.lf_frame.proofs.sweep.do_pieces_meet.Goals as goal

pub returns-then-ends_before : goal.returns-then-ends_before
returns-then-ends_before c = (λ t. cc, λ meet. absurd ((pieces_pass c.args.first.now c.args.second.now meet).some_first (c.if-ends_before.ensures.0 refl)))

pub returns-then-ends_before-2 : goal.returns-then-ends_before-2
returns-then-ends_before-2 c = (λ t. cc, λ meet. absurd ((pieces_pass c.args.first.now c.args.second.now meet).some_second (c.if-ends_before-2.ensures.0 refl)))

pub returns-then-ends_before-3 : goal.returns-then-ends_before-3
returns-then-ends_before-3 c = (λ t. cc, λ meet. absurd ((pieces_pass c.args.first.now c.args.second.now meet).first (c.if-ends_before-3.ensures.0 refl)))

pub returns : goal.returns
returns c = (
  λ t. pieces_meet c.args.first.now c.args.second.now
      (λ h. let e = c.if-ends_before.ensures.1 h in cc)
      (λ h. let e = c.if-ends_before-2.ensures.1 h in cc)
      (λ h. let e = c.if-ends_before-3.ensures.1 h in cc)
      (λ h. not_both c.ends_before-4.result (c.ends_before-4.ensures.1 h) t),
  λ meet. not_true c.ends_before-4.result (λ t. (pieces_pass c.args.first.now c.args.second.now meet).second (c.ends_before-4.ensures.0 t)),
)
