use Rattle.std.proofs.Common.{◌≡◌, Some, refl, ◌∙◌, ap, Option, subst, sym}
use Rattle.std.specs.Prelude.{option_map, slice_get}
use Rattle.lf_units.specs.declared.geometry.Point.{Point}
use Rattle.lf_rules.specs.declared.rule.Broken.{Broken}
use Rattle.lf_rules.specs.Choice.{spot_of}
use Rattle.lf_rules.specs.Tidy.{point_of}
use Rattle.lf_cells.specs.Cells.{Cells, cells_of, placement_of}
use Rattle.lf_floor_model.specs.Teams.{team_rules}
use Rattle.lf_floor_verbs.proofs.Marking.{legal_stays}
use Rattle.lf_floor_verbs.proofs.Sending.{target_placed}
use Rattle.lf_floor_verbs.proofs.tidy.target_of.Goals as goal

pub returns-in-Some-broken_at : goal.returns-in-Some-broken_at
returns-in-Some-broken_at c = λ l.
    let p = c.args.placement.now in
    let team = c.args.id.team in
    let own = c.args.id.own in
    let point : Option Broken → Option Point = option_map (λ (b : Broken). point_of (spot_of c.in-Some.place)) in
    ap (λ (q : Point). Some q) c.corner.ensures ∙ ap point (sym c.in-Some-broken_at.is)
    ∙ target_placed (team_rules l p.frame team c.args.padding.sites) (cells_of p.cells team) own c.in_ok-cell_placement.cell_placement c.in-Some.place c.broken_at.result
    (subst (λ (cs : Cells). Some c.in_ok-cell_placement.cell_placement ≡ option_map placement_of (slice_get (cells_of cs team) own)) c.cells.ensures c.in_ok-cell_placement.ensures)
    c.in-Some.is (c.broken_at.ensures l)

pub returns-in-None : goal.returns-in-None
returns-in-None c = λ l.
    let p = c.args.placement.now in
    let team = c.args.id.team in
    let own = c.args.id.own in
    let point : Option Broken → Option Point = option_map (λ (b : Broken). point_of (spot_of c.in-Some.place)) in
    ap point (sym c.in-None.is)
    ∙ target_placed (team_rules l p.frame team c.args.padding.sites) (cells_of p.cells team) own c.in_ok-cell_placement.cell_placement c.in-Some.place c.broken_at.result
    (subst (λ (cs : Cells). Some c.in_ok-cell_placement.cell_placement ≡ option_map placement_of (slice_get (cells_of cs team) own)) c.cells.ensures c.in_ok-cell_placement.ensures)
    c.in-Some.is (c.broken_at.ensures l)

pub returns-then-is_marked : goal.returns-then-is_marked
returns-then-is_marked c = λ l.
    legal_stays (team_rules l c.args.placement.now.frame c.args.id.team c.args.padding.sites) (cells_of c.args.placement.now.cells c.args.id.team) c.args.id.own
    c.verdict_is_unique.ensures (c.cells_are_sized.ensures.sized c.args.id.team) (c.requires c.args.id.own (c.if-is_marked.ensures refl))
