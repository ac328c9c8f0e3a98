use Rattle.std.proofs.Common.{◌≡◌, ◌+◌, ◌-◌, ℕ, get_or, length, map, ap, sym, subst, ◌∙◌, arith}
use Rattle.std.proofs.lemmas.List.{get_or_default}
use Rattle.lf_rules.specs.Legalizer.{Legalizer}
use Rattle.lf_rules.specs.Tidy.{Going, Stuck, Tidied}
use Rattle.lf_floorplan.specs.declared.frame.Frame.{Frame}
use Rattle.lf_cells.specs.declared.cell.CellId.{CellId}
use Rattle.lf_cells.specs.Cells.{Cells, cells_of, id_of, ids_of}
use Rattle.lf_cells.proofs.TeamIds.{ids_long}
use Rattle.lf_legalize.specs.Members.{member_of}
use Rattle.lf_floor_model.specs.Teams.{team_rules}
use Rattle.lf_floor_verbs.specs.declared.tidy.TidyStep.{TidyStep}
use Rattle.lf_floor_verbs.specs.Tidying.{TidiesOneCell, tidy_result_of}
use Rattle.lf_floor_verbs.proofs.Fitting.{only_none, only_through}
use Rattle.lf_floor_verbs.proofs.Marking.{marked_through}
use Rattle.lf_floor_verbs.proofs.Sending.{all_to_go, id_at_turn, on_going, still_within, stuck_stays}
use Rattle.lf_floor_verbs.proofs.tidy.tidy_cells.Goals.{in-Stays, in-Goes}
use Rattle.lf_floor_verbs.proofs.tidy.tidy_cells.Goals as goal

abbrev no_id : CellId
no_id = record { team = 0; own = 0 }

pub loop-own-init : goal.loop-own-init
loop-own-init g c =
    let f = c.args.placement.now.frame in
    let number = c.args.context.now.number in
    let cells = cells_of c.args.placement.now.cells number in
    record {
      going = λ l. all_to_go l f number c.args.context.now.padding.sites (length c.cells_of-own-end.result.now) cells
          (ids_long number (cells_of c.cells.result.now number) c.cells_of-own-end.result.now c.cells_of-own-end.ensures
          ∙ ap (λ (cs : Cells). length (cells_of cs number)) c.cells.ensures);
      moved = λ before have. have;
      only = only_none number c.args.placement.now;
      marked = c.requires.marked;
      few = omega arith;
    }

pub bounds-cells_of-own : goal.bounds-cells_of-own
bounds-cells_of-own g c =
    let number = c.args.context.now.number in
    let ids = λ (cs : Cells). ids_of number (cells_of cs number) in
    still_within number c.loop-own.own (cells_of c.args.placement.now.cells number) (cells_of c.loop-own.placement.cells number)
    c.cells_of-own-end.result.now c.cells_of.result.now (c.cells_of-own-end.ensures ∙ ap ids c.cells.ensures)
    (c.cells_of.ensures ∙ ap ids c.cells-in-loop-own.ensures) c.loop-own.invariant.only.same c.loop-own-test.true

pub tidy_cell-requires-clause-team : goal.tidy_cell-requires-clause-team
tidy_cell-requires-clause-team g c =
    let number = c.args.context.now.number in
    let own = c.loop-own.own in
    let ids = λ (cs : Cells). ids_of number (cells_of cs number) in
    let id : get_or c.cells_of.result.now own no_id ≡ id_of number own =
    id_at_turn number own (cells_of c.args.placement.now.cells number) (cells_of c.loop-own.placement.cells number) c.cells_of-own-end.result.now
    c.cells_of.result.now (get_or c.cells_of.result.now own no_id)
    (c.cells_of-own-end.ensures ∙ ap ids c.cells.ensures) (c.cells_of.ensures ∙ ap ids c.cells-in-loop-own.ensures) c.loop-own.invariant.only.same
    c.loop-own-test.true
    (get_or_default c.cells_of.result.now own no_id (get_or c.cells_of.result.now own no_id)
    (still_within number own (cells_of c.args.placement.now.cells number) (cells_of c.loop-own.placement.cells number) c.cells_of-own-end.result.now c.cells_of.result.now
    (c.cells_of-own-end.ensures ∙ ap ids c.cells.ensures) (c.cells_of.ensures ∙ ap ids c.cells-in-loop-own.ensures) c.loop-own.invariant.only.same c.loop-own-test.true)) in
    ap (λ (i : CellId). i.team) id

pub returns-in-Nowhere-clause-ok : goal.returns-in-Nowhere-clause-ok
returns-in-Nowhere-clause-ok g c = λ l.
    let f = c.args.placement.now.frame in
    let number = c.args.context.now.number in
    let own = c.loop-own.own in
    let last = length c.cells_of-own-end.result.now in
    let old = cells_of c.loop-own.placement.cells number in
    let ids = λ (cs : Cells). ids_of number (cells_of cs number) in
    let id : get_or c.cells_of.result.now own no_id ≡ id_of number own =
    id_at_turn number own (cells_of c.args.placement.now.cells number) old c.cells_of-own-end.result.now c.cells_of.result.now (get_or c.cells_of.result.now own no_id)
    (c.cells_of-own-end.ensures ∙ ap ids c.cells.ensures) (c.cells_of.ensures ∙ ap ids c.cells-in-loop-own.ensures) c.loop-own.invariant.only.same
    c.loop-own-test.true
    (get_or_default c.cells_of.result.now own no_id (get_or c.cells_of.result.now own no_id)
    (still_within number own (cells_of c.args.placement.now.cells number) (cells_of c.loop-own.placement.cells number) c.cells_of-own-end.result.now c.cells_of.result.now
    (c.cells_of-own-end.ensures ∙ ap ids c.cells.ensures) (c.cells_of.ensures ∙ ap ids c.cells-in-loop-own.ensures) c.loop-own.invariant.only.same c.loop-own-test.true)) in
    let new = cells_of c.tidy_cell.new.placement.cells number in
    let sends : TidiesOneCell (team_rules l f number c.args.context.now.padding.sites) own old new c.in_ok-tidy_cell.field-0 =
    subst (λ (h : Frame). TidiesOneCell (team_rules l h number c.args.context.now.padding.sites) own old new c.in_ok-tidy_cell.field-0) c.loop-own.invariant.only.ground.frame
    (subst (λ (i : CellId). TidiesOneCell (team_rules l c.loop-own.placement.frame number c.args.context.now.padding.sites) i.own old new c.in_ok-tidy_cell.field-0) id ((c.in_ok-tidy_cell.ensures {u = tt}).ok l)) in
    sym (on_going (team_rules l f number c.args.context.now.padding.sites) own last c.loop-own.moved (cells_of c.args.placement.now.cells number) old new c.in_ok-tidy_cell.field-0 (Stuck own)
    c.loop-own-test.true sends (ap (λ (s : TidyStep). tidy_result_of s new c.loop-own.moved own) c.in-Nowhere.is) (c.loop-own.invariant.going l))
    ∙ stuck_stays l f number c.args.context.now.padding.sites (own + 1) (last - (own + 1)) own
    ∙ ap {B = Tidied} (λ (i : CellId). Stuck i.own) (sym id)

pub loop-own-preserved : goal.loop-own-preserved
loop-own-preserved g c =
    let first = c.args.placement.now in
    let f = first.frame in
    let number = c.args.context.now.number in
    let own = c.loop-own.own in
    let last = length c.cells_of-own-end.result.now in
    let moved = c.loop-own.moved in
    let now = c.match-branch-2.moved in
    let old = cells_of c.loop-own.placement.cells number in
    let ids = λ (cs : Cells). ids_of number (cells_of cs number) in
    let id : get_or c.cells_of.result.now own no_id ≡ id_of number own =
    id_at_turn number own (cells_of c.args.placement.now.cells number) old c.cells_of-own-end.result.now c.cells_of.result.now (get_or c.cells_of.result.now own no_id)
    (c.cells_of-own-end.ensures ∙ ap ids c.cells.ensures) (c.cells_of.ensures ∙ ap ids c.cells-in-loop-own.ensures) c.loop-own.invariant.only.same
    c.loop-own-test.true
    (get_or_default c.cells_of.result.now own no_id (get_or c.cells_of.result.now own no_id)
    (still_within number own (cells_of c.args.placement.now.cells number) (cells_of c.loop-own.placement.cells number) c.cells_of-own-end.result.now c.cells_of.result.now
    (c.cells_of-own-end.ensures ∙ ap ids c.cells.ensures) (c.cells_of.ensures ∙ ap ids c.cells-in-loop-own.ensures) c.loop-own.invariant.only.same c.loop-own-test.true)) in
    let new = cells_of c.tidy_cell.new.placement.cells number in
    let sent = c.in_ok-tidy_cell.ensures {u = tt} in
    let goes : tidy_result_of c.in_ok-tidy_cell.field-0 new moved own ≡ Going (map member_of new) now =
    elim c.match-branch-2.branch [
      | in-Stays w ↦ ap (λ (s : TidyStep). tidy_result_of s new moved own) w.in-Stays.is ∙ ap (λ (n : ℕ). Going (map member_of new) n) (sym w.moved-is)
      | in-Goes w ↦ ap (λ (s : TidyStep). tidy_result_of s new moved own) w.in-Goes.is ∙ ap (λ (n : ℕ). Going (map member_of new) n) (sym w.moved-is)
    ] in
    let sends : (l : Legalizer) → TidiesOneCell (team_rules l f number c.args.context.now.padding.sites) own old new c.in_ok-tidy_cell.field-0 = λ l.
    subst (λ (h : Frame). TidiesOneCell (team_rules l h number c.args.context.now.padding.sites) own old new c.in_ok-tidy_cell.field-0) c.loop-own.invariant.only.ground.frame
    (subst (λ (i : CellId). TidiesOneCell (team_rules l c.loop-own.placement.frame number c.args.context.now.padding.sites) i.own old new c.in_ok-tidy_cell.field-0) id (sent.ok l)) in
    let l = c.legalizer_exists.ensures in
    record {
      going = λ l. on_going (team_rules l f number c.args.context.now.padding.sites) own last moved (cells_of first.cells number) old new c.in_ok-tidy_cell.field-0
          (Going (map member_of new) now) c.loop-own-test.true (sends l) goes (c.loop-own.invariant.going l);
      moved = λ before have. sent.moved before (c.loop-own.invariant.moved before have);
      only = only_through number first c.loop-own.placement c.tidy_cell.new.placement c.loop-own.invariant.only sent.only;
      marked = marked_through (team_rules l f number c.args.context.now.padding.sites) own moved now old new c.args.marks.now c.tidy_keeps_legal.ensures
          (rw (← c.loop-own.invariant.only.ground.frame) (c.cells_are_sized.ensures.sized number)) (sends l moved ∙ goes) c.loop-own.invariant.marked;
      few = elim c.match-branch-2.branch [
        | in-Stays w ↦ omega (arith, w.moved-is, c.loop-own.invariant.few)
        | in-Goes w ↦ omega (arith, w.moved-is, c.loop-own.invariant.few)
      ];
    }

pub overflow_add-moved : goal.overflow_add-moved
overflow_add-moved g c =
    let number = c.args.context.now.number in
    let ids = λ (cs : Cells). ids_of number (cells_of cs number) in
    let now = cells_of c.loop-own.placement.cells number in
    let are = c.cells_of.ensures ∙ ap ids c.cells-in-loop-own.ensures in
    let within =
    still_within number c.loop-own.own (cells_of c.args.placement.now.cells number) now c.cells_of-own-end.result.now c.cells_of.result.now
    (c.cells_of-own-end.ensures ∙ ap ids c.cells.ensures) are c.loop-own.invariant.only.same c.loop-own-test.true in
    let many = ids_long number now c.cells_of.result.now are in
    let few = c.cells_are_sized.ensures.few number in
    let moved = c.loop-own.invariant.few in
    omega (arith, within, many, few, moved)
