use Rattle.std.proofs.Common.{◌∙◌, refl, subst, sym}
use Rattle.std.proofs.lemmas.Result.{err_from_is_err_and}
use Rattle.lf_floorplan.specs.Design.{MakeDesign}
use Rattle.lf_task_files.proofs.Looking.{design_placed}
use Rattle.lf_task_files.proofs.viewed.design_in_state.Goals as goal

pub cells_in_state-requires : goal.cells_in_state-requires
cells_in_state-requires g c =
    let design = c.args.design in
    record {
      whole = c.into_parts-parts.ensures.count;
      design = subst (MakeDesign design.frame) (sym c.into_parts-parts.ensures.cells) (record {
        few_cells = design.few_cells;
        cells_known = design.cells_known;
        names_differ = design.names_differ;
        components_rise = design.components_rise;
      });
    }

pub design_of-requires : goal.design_of-requires
design_of-requires g c =
    let design = c.args.design in
    let made = c.in_ok-original_place.ensures.ok design refl (sym c.into_parts-parts.ensures.cells) in
    subst (MakeDesign design.frame) (sym made.2) (design_placed c.args.committed design.frame made.0 design.cells (record {
      few_cells = design.few_cells;
      cells_known = design.cells_known;
      names_differ = design.names_differ;
      components_rise = design.components_rise;
    }))

pub returns-clause-ok : goal.returns-clause-ok
returns-clause-ok g c =
    let made = c.in_ok-original_place.ensures.ok c.args.design refl (sym c.into_parts-parts.ensures.cells) in
    (made.0, made.1, record { frame = c.design_of.ensures.frame; cells = c.design_of.ensures.cells ∙ made.2 })

pub returns-in_err-original_place-clause-err : goal.returns-in_err-original_place-clause-err
returns-in_err-original_place-clause-err g c =
    let p = err_from_is_err_and c.from_residual.result c.from_residual.ensures.1 in
    rw (p.1, p.2) (c.in_err-original_place.ensures.err c.args.design refl (sym c.into_parts-parts.ensures.cells))
