use Rattle.std.proofs.Common.{◌≡◌, ◌≢◌, ◌<◌, ℕ, [], List, Option, Some, arith, get_or, length, set, subst}
use Rattle.std.specs.Prelude.{slice_get}
use Rattle.std.proofs.lemmas.List.{get_or_default}
use Rattle.lf_units.specs.declared.geometry.Rect.{Rect}
use Rattle.lf_cells.specs.declared.cell.CellId.{CellId}
use Rattle.lf_cells.specs.Cells.{cells_of, committed_at, id_of, working_at}
use Rattle.lf_cells.proofs.TeamIds.{ids_long, ids_read}
use Rattle.lf_occupancy.specs.Views.{Bounds}
use Rattle.lf_occupancy.specs.Strips.{with_boxes}
use Rattle.lf_undo.specs.Entries.{Places}
use Rattle.lf_placement.specs.Placements.{boxes_at}
use Rattle.lf_placement.proofs.Tallying.{gains_none, gains_through, half_all, half_committed, half_next, half_there}
use Rattle.lf_placement.proofs.counted_capacity.fit_team.Goals as goal

abbrev no_id : CellId
no_id = record { team = 0; own = 0 }

pub loop-id-init : goal.loop-id-init
loop-id-init c = record { own = λ b. b; others = λ boxes other differ b. b; gains = gains_none c.args.occupancy.now; room = c.requires }

pub loop-id-preserved : goal.loop-id-preserved
loop-id-preserved c =
    let f = c.args.sized.now.frame.now in
    let team = c.args.team in
    let table = c.args.sized.now.cells.now in
    let cells = cells_of table team in
    let i = c.loop-id.id-index in
    let old = with_boxes c.loop-id.occupancy [] in
    let new = with_boxes c.fit_committed.new.occupancy [] in
    let tally = c.loop-id.counts in
    let then = c.fit_committed.new.counts in
    let ids = c.cells_of-id-items.result.now in
    let many = ids_long team cells ids c.cells_of-id-items.ensures in
    let within : i < length cells = omega (arith, c.loop-id-test.true, many) in
    let is : get_or ids i no_id ≡ id_of team i =
    ids_read team i cells ids (get_or ids i no_id) c.cells_of-id-items.ensures c.loop-id-test.true
    (get_or_default ids i no_id (get_or ids i no_id) c.loop-id-test.true) in
    let Own : CellId → Type 0 = λ id.
    (places : Places) → slice_get places id.own ≡ Some (working_at (cells_of table id.team) id.own) →
    Bounds old id.team (boxes_at f (cells_of table id.team) places) tally →
    Bounds new id.team (boxes_at f (cells_of table id.team) (set places id.own (committed_at (cells_of table id.team) id.own))) then in
    let own : Own (id_of team i) = subst Own is c.in_ok-fit_committed.ensures.own in
    let Others : CellId → Type 0 = λ id. (boxes : List (Option Rect)) (other : ℕ) → other ≢ id.team → Bounds old other boxes tally → Bounds new other boxes then in
    let others : Others (id_of team i) = subst Others is c.in_ok-fit_committed.ensures.others in
    record {
      own = λ b.
          subst (λ (ps : Places). Bounds new team (boxes_at f cells ps) then) (half_next i cells within)
          (own (half_committed i cells) (half_there i cells within) (c.loop-id.invariant.own b));
      others = λ boxes other differ b. others boxes other differ (c.loop-id.invariant.others boxes other differ b);
      gains = gains_through c.args.occupancy.now c.loop-id.occupancy c.fit_committed.new.occupancy c.loop-id.invariant.gains c.in_ok-fit_committed.ensures.gains;
      room = c.in_ok-fit_committed.ensures.room;
    }

pub returns-in_err-fit_committed-clause-gains : goal.returns-in_err-fit_committed-clause-gains
returns-in_err-fit_committed-clause-gains c =
    gains_through c.args.occupancy.now c.loop-id.occupancy c.fit_committed.new.occupancy c.loop-id.invariant.gains c.in_err-fit_committed.ensures.gains

pub returns-clause-own : goal.returns-clause-own
returns-clause-own c = λ b.
    let cells = cells_of c.args.sized.now.cells.now c.args.team in
    let many = ids_long c.args.team cells c.cells_of-id-items.result.now c.cells_of-id-items.ensures in
    subst (λ (ps : Places). Bounds (with_boxes c.loop-id.occupancy []) c.args.team (boxes_at c.args.sized.now.frame.now cells ps) c.loop-id.counts)
    (half_all c.loop-id.id-index cells (omega (arith, c.loop-id-test.false, many))) (c.loop-id.invariant.own b)
