use Rattle.std.proofs.Common.{◌≡◌, ◌<◌, ◌+◌, ◌-◌, ℕ, List, length, take, refl, ap, ◌∙◌, arith}
use Rattle.std.proofs.lemmas.List.{length-set, take_all}
use Rattle.lf_undo.specs.declared.moves.Move.{Move}
use Rattle.lf_undo.specs.Entries.{Places, moves_taken_back}
use Rattle.lf_placement.proofs.Tallying.{back_less, same_self, same_through}
use Rattle.lf_placement.proofs.undo_capacity.fit_moves_back.Goals as goal

pub loop-at-init : goal.loop-at-init
loop-at-init c =
    let moves = c.as_slice-moves.result.now in
    record {
      left = ap (λ (ms : List Move). moves_taken_back ms c.args.places.now) (take_all (length moves) moves (omega arith) ∙ c.as_slice-moves.ensures);
      many = refl;
      room = c.requires.room;
      bounds = c.requires.bounds;
      others = λ at other differ b. b;
      same = same_self c.args.placement.now;
    }

pub loop-at-preserved : goal.loop-at-preserved
loop-at-preserved c =
    let moves = c.as_slice-moves.result.now in
    let n = c.loop-at.at - 1 in
    let more : n + 1 ≡ c.loop-at.at = omega (arith, c.loop-at-test.true) in
    let within : n < length moves = omega (arith, c.loop-at.auto.at, c.loop-at-test.true) in
    let m = c.index-moves-at.result in
    let put = c.in_ok-reserve_move_undo.ensures.places in
    record {
      left =
          ap (moves_taken_back (take n moves)) put
          ∙ back_less c.loop-at.places moves n m within c.index-moves-at.is
          ∙ ap (λ (k : ℕ). moves_taken_back (take k moves) c.loop-at.places) more
          ∙ c.loop-at.invariant.left;
      many = ap (λ (ps : Places). length ps) put ∙ length-set c.loop-at.places m.own m.place ∙ c.loop-at.invariant.many;
      room = c.in_ok-reserve_move_undo.ensures.room;
      bounds = c.in_ok-reserve_move_undo.ensures.bounds;
      others = λ at other differ b. c.in_ok-reserve_move_undo.ensures.others at other differ (c.loop-at.invariant.others at other differ b);
      same = same_through c.args.placement.now c.loop-at.placement c.reserve_move_undo.new.placement c.loop-at.invariant.same c.in_ok-reserve_move_undo.ensures.same;
    }
