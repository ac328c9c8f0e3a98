use Rattle.std.proofs.Common.{ap, sym, ◌∙◌}
use Rattle.lf_cells.specs.Cells.{cells_of}
use Rattle.lf_undo.specs.declared.moves.Move.{Move}
use Rattle.lf_floor_verbs.proofs.Reverting.{one_noted, stays_noted}
use Rattle.lf_floor_verbs.proofs.whole_team.note_revert.Goals as goal

pub returns-then-same_place : goal.returns-then-same_place
returns-then-same_place c =
    stays_noted (cells_of c.args.cells.now c.args.id.team) c.args.id.own c.args.moves.now
    (sym c.working.ensures ∙ c.same_place.ensures.0 c.if-same_place.true ∙ c.committed-committed.ensures)

pub returns : goal.returns
returns c =
    one_noted (cells_of c.args.cells.now c.args.id.team) c.args.id.own c.args.moves.now c.push.new.self c.new.result
    (ap (λ (m : Move). m.own) c.new.ensures) (ap (λ (m : Move). m.place) c.new.ensures ∙ c.committed-committed.ensures) (c.in_ok-push.ensures {u = tt}).ok
