use Rattle.std.proofs.Common.{◌≡◌, ◌∙◌, false, true, sym}
use Rattle.lf_cells.specs.Cells.{cells_of}
use Rattle.lf_repair_team.proofs.OffSoft.{at_target, has_moved, off_soft_here, unplaced_here}
use Rattle.lf_repair_team.proofs.misplaced_pass.has_moved_onto_soft.Goals as goal

false_true : false ≡ true → ⊥
false_true e = cc

pub returns-then-same_place-clause-settled : goal.returns-then-same_place-clause-settled
returns-then-same_place-clause-settled g c = λ no.
    let number = c.args.session.now.number in
    at_target c.args.floor.now c.args.session.now.team.now number c.args.own (cells_of c.placement-placement.result.now.cells number) c.args.targets.now c.requires
    (λ s at. c.placement-placement.ensures.cells number s at) c.place_at-now.result c.place_at-now.ensures (c.same_place.ensures.0 c.if-same_place.true ∙ c.target_place.ensures)

pub returns-in-Some-clause-settled : goal.returns-in-Some-clause-settled
returns-in-Some-clause-settled g c = λ no.
    let number = c.args.session.now.number in
    off_soft_here c.args.floor.now c.args.session.now.team.now number c.args.own (cells_of c.placement-placement.result.now.cells number) c.args.targets.now c.requires
    (λ s at. c.placement-placement.ensures.cells number s at) c.placement-placement.result.now.frame c.in-Some.place c.placement-placement.ensures.frame
    (sym c.place_at-now.ensures ∙ c.in-Some.is) (λ cell there. c.is_on_soft.ensures cell there no)

pub returns-in-Some-clause-moved : goal.returns-in-Some-clause-moved
returns-in-Some-clause-moved g c = λ s there yes.
    let number = c.args.session.now.number in
    has_moved c.args.floor.now c.args.session.now.team.now number c.args.own (cells_of c.placement-placement.result.now.cells number) c.args.targets.now c.requires
    (λ s at. c.placement-placement.ensures.cells number s at) c.place_at-now.result s c.place_at-now.ensures
    (λ same. false_true (sym c.if-same_place.false ∙ c.same_place.ensures.1 (same ∙ sym c.target_place.ensures))) there

pub returns-in-None-clause-settled : goal.returns-in-None-clause-settled
returns-in-None-clause-settled g c = λ no.
    let number = c.args.session.now.number in
    unplaced_here c.args.floor.now c.args.session.now.team.now number c.args.own (cells_of c.placement-placement.result.now.cells number) c.args.targets.now c.requires
    (λ s at. c.placement-placement.ensures.cells number s at) (sym c.place_at-now.ensures ∙ c.in-None.is)
