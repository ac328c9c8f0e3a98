use Rattle.std.proofs.Common.{◌≡◌, ◌+◌, ℕ, List, Option, Some, map, ap, sym, subst, ◌∙◌}
use Rattle.lf_rules.specs.Tidy.{Going}
use Rattle.lf_floorplan.specs.declared.place.Place.{Place}
use Rattle.lf_cells.specs.declared.cell.Cell.{Cell}
use Rattle.lf_cells.specs.Cells.{cells_of, moved as moved_to}
use Rattle.lf_legalize.specs.Members.{member_of}
use Rattle.lf_floor_model.specs.Teams.{team_rules}
use Rattle.lf_floor_verbs.specs.Tables.{context_at}
use Rattle.lf_floor_verbs.specs.Tidying.{tidy_target_at}
use Rattle.lf_floor_verbs.proofs.Sending.{one_sent, one_stays, sent_by}
use Rattle.lf_floor_verbs.proofs.tidy.tidy_cell.Goals as goal

pub returns-in_default-clause-ok : goal.returns-in_default-clause-ok
returns-in_default-clause-ok g c = λ l moved.
    one_stays (context_at l c.args.context.now c.args.placement.now) (cells_of c.args.placement.now.cells c.args.context.now.number) c.args.id.own moved
    (sym (subst (λ (k : ℕ). c.target_of.result ≡ tidy_target_at (team_rules l c.args.placement.now.frame k c.args.context.now.padding.sites) (cells_of c.args.placement.now.cells k) c.args.id.own) c.requires.team
    (c.target_of.ensures l)) ∙ c.in_default.is)

pub returns-in_ok-move_one-in-Some-2-clause-ok : goal.returns-in_ok-move_one-in-Some-2-clause-ok
returns-in_ok-move_one-in-Some-2-clause-ok g c = λ l moved.
    let p = c.args.placement.now in
    let own = c.args.id.own in
    let cells = cells_of p.cells c.args.context.now.number in
    let t = context_at l c.args.context.now p in
    let aimed : Some c.in-Some.target ≡ tidy_target_at t cells own =
    sym c.in-Some.is ∙ subst (λ (k : ℕ). c.target_of.result ≡ tidy_target_at (team_rules l p.frame k c.args.context.now.padding.sites) (cells_of p.cells k) own) c.requires.team (c.target_of.ensures l) in
    one_sent t cells own moved c.in-Some.target c.in_ok-place.field-0 aimed ((c.in_ok-place.ensures {u = tt}).spot l)
    ∙ ap (λ (found : Option Place). sent_by found cells own moved) c.in-Some-2.is
    ∙ ap (λ (cs : List Cell). Going (map member_of cs) (moved + 1))
    (sym (subst (λ (k : ℕ). cells_of c.move_one.new.placement.cells k ≡ moved_to (cells_of p.cells k) own (Some c.in-Some-2.place)) c.requires.team
    (c.in_ok-move_one-in-Some-2.ensures {u = tt}).own))

pub returns-in-None-clause-ok : goal.returns-in-None-clause-ok
returns-in-None-clause-ok g c = λ l moved.
    let p = c.args.placement.now in
    let own = c.args.id.own in
    let cells = cells_of p.cells c.args.context.now.number in
    let t = context_at l c.args.context.now p in
    let aimed : Some c.in-Some.target ≡ tidy_target_at t cells own =
    sym c.in-Some.is ∙ subst (λ (k : ℕ). c.target_of.result ≡ tidy_target_at (team_rules l p.frame k c.args.context.now.padding.sites) (cells_of p.cells k) own) c.requires.team (c.target_of.ensures l) in
    one_sent t cells own moved c.in-Some.target c.in_ok-place.field-0 aimed ((c.in_ok-place.ensures {u = tt}).spot l)
    ∙ ap (λ (found : Option Place). sent_by found cells own moved) c.in-None.is
