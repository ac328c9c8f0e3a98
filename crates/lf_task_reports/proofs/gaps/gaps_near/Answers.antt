use Rattle.std.proofs.Common.{◌∙◌, sym}
use Rattle.std.proofs.lemmas.Result.{IfOk-weaker}
use Rattle.lf_cells.specs.Cells.{cells_of}
use Rattle.lf_repair_bounds.specs.Gaps.{place_at}
use Rattle.lf_task_reports.proofs.GapLemmas.{gaps_in}
use Rattle.lf_task_reports.proofs.gaps.gaps_near.Goals as goal

pub returns : goal.returns
returns g c =
    let floor = c.args.floor.now in
    let p = c.placement.result.now in
    IfOk-weaker c.widest_gaps.result _ _
    (λ gaps are. gaps_in floor c.args.team.now (place_at c.args.old_places.now) c.args.owns.now gaps.items c.in-Some.number c.padding_of.result.sites p.frame (cells_of p.cells c.in-Some.number)
    (sym c.team_number.ensures ∙ c.in-Some.is) c.placement.ensures.frame (c.placement.ensures.cells c.in-Some.number) c.padding_of.ensures are)
    c.widest_gaps.ensures
