use Rattle.std.proofs.Common.{◌≡◌, ◌<◌, Some, length, slice_get, sym, subst, rules, FitsSigned, w64}
use Rattle.std.proofs.lemmas.Int.{to_z-of_z}
use Rattle.lf_floorplan.specs.declared.frame.Frame.{Frame}
use Rattle.lf_floorplan.specs.Rows.{IsCoreRow}
use Rattle.lf_rules.proofs.RowsAt.{no_row, only_row, row_within}
use Rattle.lf_rules.proofs.rows.row_at.Goals as goal

pub row_of-requires : goal.row_of-requires
row_of-requires g c =
    let y : FitsSigned w64 c.args.point.now.y = search rules in
    let x : FitsSigned w64 c.args.point.now.x = search rules in
    subst (λ (h : Frame). c.in-Some.number < length h.rows) (sym c.frame.ensures)
    (row_within (g.N.FrameQuery.of c.args.near.now) c.args.point.now c.in-Some.number
    (rw (to_z-of_z w64 c.args.point.now.y y, to_z-of_z w64 c.args.point.now.x x) at c.in-Some.ensures))

pub returns-in-Some : goal.returns-in-Some
returns-in-Some g c =
    let f = g.N.FrameQuery.of c.args.near.now in
    let row = c.row_of.result.now in
    let y : FitsSigned w64 c.args.point.now.y = search rules in
    let x : FitsSigned w64 c.args.point.now.x = search rules in
    record {
      only = only_row f c.args.point.now c.in-Some.number row (subst (λ (h : Frame). slice_get h.rows c.in-Some.number ≡ Some row) c.frame.ensures c.row_of.ensures.row)
          (rw (to_z-of_z w64 c.args.point.now.y y, to_z-of_z w64 c.args.point.now.x x) at c.in-Some.ensures);
      core_ones = subst (λ (h : Frame). IsCoreRow h.pitch row) c.frame.ensures c.row_of.ensures.core_ones;
    }

pub returns-in-None : goal.returns-in-None
returns-in-None g c =
    let y : FitsSigned w64 c.args.point.now.y = search rules in
    let x : FitsSigned w64 c.args.point.now.x = search rules in
    record {
      only = no_row (g.N.FrameQuery.of c.args.near.now) c.args.point.now
          (rw (to_z-of_z w64 c.args.point.now.y y, to_z-of_z w64 c.args.point.now.x x) at c.in-None.ensures);
      core_ones = tt;
    }
