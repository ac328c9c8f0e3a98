use Rattle.std.proofs.Common.{◌≡◌, ◌∙◌, ap, sym, subst}
use Rattle.lf_units.specs.declared.geometry.Point.{Point}
use Rattle.lf_floorplan.specs.declared.frame.Frame.{Frame}
use Rattle.lf_floorplan.specs.RowSupport.{Supports}
use Rattle.lf_rules.proofs.RowsAt.{foot, none_carries, one_carries}
use Rattle.lf_rules.proofs.rows.is_carried.Goals as goal

pub returns-in_default : goal.returns-in_default
returns-in_default g c =
    let f = g.N.FrameQuery.of c.args.near.now in
    let is : c.foot_of.result ≡ foot f c.args.rect.now c.args.sites =
    c.foot_of.ensures ∙ ap {B = Point} (λ (h : Frame). foot h c.args.rect.now c.args.sites) c.frame-frame.ensures in (
      λ t. absurd cc,
      λ s. absurd (none_carries f c.args.rect.now c.args.bottom.now c.args.sites c.foot_of.result is c.requires.solid.wide c.in_default.ensures.only s.0 s.1),
    )

pub returns : goal.returns
returns g c =
    let f = g.N.FrameQuery.of c.args.near.now in
    let row = c.in-Some.row.now in
    let is : c.foot_of.result ≡ foot f c.args.rect.now c.args.sites =
    c.foot_of.ensures ∙ ap {B = Point} (λ (h : Frame). foot h c.args.rect.now c.args.sites) c.frame-frame.ensures in (
      λ t. (row, subst (λ (h : Frame). Supports h c.args.rect.now c.args.bottom.now c.args.sites row) c.frame-frame.ensures (c.supports.ensures.0 t)),
      λ s. c.supports.ensures.1 (subst (λ (h : Frame). Supports h c.args.rect.now c.args.bottom.now c.args.sites row) (sym c.frame-frame.ensures)
          (one_carries f c.args.rect.now c.args.bottom.now c.args.sites c.foot_of.result row is c.requires.solid.wide c.in-Some.ensures.only s.0 s.1)),
    )
