use Rattle.std.proofs.Common.{◌≡◌, ◌∙◌, ℕ, ◌*◌, Some, sym, ap, subst}
use Rattle.std.specs.Int.RustNames.{unsigned_abs}
use Rattle.lf_floorplan.specs.declared.frame.Frame.{Frame}
use Rattle.lf_cells.specs.Cells.{Cells, cells_of, id_in}
use Rattle.lf_repair_bounds.proofs.GapLemmas.{gap_of_cell}
use Rattle.lf_repair_bounds.proofs.gaps.gap_of.Goals as goal

pub returns : goal.returns
returns c =
    let p = c.args.placement.now in
    let team = c.args.team in
    let known = subst (λ (table : Cells). id_in (cells_of table team) team c.args.own ≡ Some c.in-Some.id) c.cells.ensures (sym c.cell_of.ensures ∙ c.in-Some.is) in
    gap_of_cell p.frame team c.args.padding.sites p.cells c.args.runs.now c.requires c.args.places.now c.args.own c.widest_near.result _ c.in-Some.id
    c.target_of-target.result known c.target_of-target.ensures
    (ap (λ (n : ℕ). 8 * n) (c.row_height.ensures.is ∙ ap (λ (f : Frame). unsigned_abs f.pitch.y) c.frame.ensures)) c.widest_near.ensures
