use Rattle.std.proofs.Common.{◌≡◌, ◌∷◌, ◌+◌, List, drop, length, ap, sym, ◌∙◌}
use Rattle.std.proofs.lemmas.List.{drop_more}
use Rattle.lf_undo.specs.declared.moves.Move.{Move}
use Rattle.lf_undo.specs.Entries.{Places}
use Rattle.lf_undo.proofs.Undone.{taken_back_length}
use Rattle.lf_floor.proofs.Fitting.{next_fits, none_fits, rooms_then, same_rooms}
use Rattle.lf_floor.proofs.restored_entries.fit_entries.Goals as goal

pub loop-moves-preserved : goal.loop-moves-preserved
loop-moves-preserved c =
    let k = c.args.team in
    let at = c.loop-moves.moves-index in
    let entries = c.args.entries.now in
    let before = c.loop-moves.places in
    let after = c.reserve_undo.new.places in
    let p = c.reserve_undo.new.self in
    let next : drop at entries ≡ c.moves-item.result ∷ drop (at + 1) entries =
    drop_more entries at c.moves-item.result c.loop-moves-test.true ∙ ap (λ (m : List Move). m ∷ drop (at + 1) entries) (sym c.moves-item.is) in
    record {
      rest = λ q same all.
          c.loop-moves.invariant.rest q (rooms_then c.loop-moves.placement p q c.in_ok-reserve_undo.ensures.same same)
          (next_fits c.fitting_is_stable.ensures.last k p q (drop at entries) (drop (at + 1) entries) c.moves-item.result before after next c.in_ok-reserve_undo.ensures.places
          c.in_ok-reserve_undo.ensures.fits same all);
      room = c.in_ok-reserve_undo.ensures.room;
      bounds = c.in_ok-reserve_undo.ensures.bounds;
      many =
          ap (λ (ps : Places). length ps) c.in_ok-reserve_undo.ensures.places ∙ taken_back_length c.moves-item.result before ∙ c.loop-moves.invariant.many;
      same = rooms_then c.args.placement.now c.loop-moves.placement p c.loop-moves.invariant.same c.in_ok-reserve_undo.ensures.same;
      others = λ places other apart bounds.
          c.in_ok-reserve_undo.ensures.others places other apart (c.loop-moves.invariant.others places other apart bounds);
    }

pub returns-clause-fit : goal.returns-clause-fit
returns-clause-fit c =
    c.loop-moves.invariant.rest c.loop-moves.placement (same_rooms c.loop-moves.placement)
    (none_fits c.args.team c.loop-moves.placement c.args.entries.now c.loop-moves.places c.loop-moves.moves-index c.loop-moves-test.false)
