use Rattle.std.proofs.Common.{refl}
use Rattle.lf_frame.specs.Loading.{frame_row}
use Rattle.lf_frame.proofs.RowEdges.{not_true, not_both, rows_meet, rows_pass}
use Rattle.lf_frame.proofs.row_checks.do_rows_meet.Goals as goal

pub returns-then-is_below : goal.returns-then-is_below
returns-then-is_below c = (
  λ t. cc,
  λ meet. absurd ((rows_pass c.args.pitch.now.size (frame_row c.args.first.now) (frame_row c.args.second.now) meet).below
      (c.if-is_below.ensures.0 refl)),
)

pub returns-then-is_below-2 : goal.returns-then-is_below-2
returns-then-is_below-2 c = (
  λ t. cc,
  λ meet. absurd ((rows_pass c.args.pitch.now.size (frame_row c.args.first.now) (frame_row c.args.second.now) meet).above
      (c.if-is_below-2.ensures.0 refl)),
)

pub returns-then-ends_before : goal.returns-then-ends_before
returns-then-ends_before c = (
  λ t. cc,
  λ meet. absurd ((rows_pass c.args.pitch.now.size (frame_row c.args.first.now) (frame_row c.args.second.now) meet).left
      (c.if-ends_before.ensures.0 refl)),
)

pub returns : goal.returns
returns c = (
  λ t. rows_meet c.args.pitch.now.size (frame_row c.args.first.now) (frame_row c.args.second.now) c.args.pitch.now.wide c.args.pitch.now.high
      c.requires.first.sites_x.some c.requires.second.sites_x.some
      (λ h. let e = c.if-is_below.ensures.1 h in cc)
      (λ h. let e = c.if-is_below-2.ensures.1 h in cc)
      (λ h. let e = c.if-ends_before.ensures.1 h in cc)
      (λ h. not_both c.ends_before-2.result (c.ends_before-2.ensures.1 h) t),
  λ meet. not_true c.ends_before-2.result (λ t. (rows_pass c.args.pitch.now.size (frame_row c.args.first.now) (frame_row c.args.second.now) meet).right
      (c.ends_before-2.ensures.0 t)),
)
