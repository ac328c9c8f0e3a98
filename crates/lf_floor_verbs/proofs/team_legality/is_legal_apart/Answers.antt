use Rattle.std.proofs.Common.{◌≡◌, ◌∙◌, Some, ap, sym}
use Rattle.std.specs.Prelude.{not}
use Rattle.lf_cells.specs.Cells.{Cells, cells_of, working_at}
use Rattle.lf_floor_verbs.proofs.Marking.{apart_is_legal}
use Rattle.lf_floor_verbs.proofs.team_legality.is_legal_apart.Goals as goal

pub returns : goal.returns
returns c = λ e.
    let p = c.args.placement.now in
    let id = c.args.id in
    let at : working_at (cells_of p.cells id.team) id.own ≡ Some c.in-Some.place =
    ap (λ (cs : Cells). working_at (cells_of cs id.team) id.own) (sym c.cells.ensures) ∙ sym c.working.ensures ∙ c.in-Some.is in
    apart_is_legal c.legalizer_exists.ensures p c.args.padding.sites id c.in-Some.place c.broken_frame_rule.result c.verdict_is_unique.ensures
    (c.cells_are_sized.ensures.sized id.team) at c.broken_frame_rule.ensures (ap not (c.is_none.ensures ∙ ap not e)) c.requires
