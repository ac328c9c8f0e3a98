use Rattle.std.proofs.Common.{◌≡◌, ◌<◌, ◌+◌, length, map, get_or, refl, ap, sym, subst, ◌∙◌, arith}
use Rattle.std.proofs.lemmas.List.{length-map}
use Rattle.lf_cells.specs.Cells.{Cells, cells_of}
use Rattle.lf_placement.specs.Placements.{working_places_of}
use Rattle.lf_undo.specs.Entries.{Places}
use Rattle.lf_state_text.specs.declared.saved_rows.SavedCell.{SavedCell}
use Rattle.lf_floor.proofs.Placed.{ArePlacedSoFar, all_so_far, none_so_far, one_so_far, read_at, there_so_far}
use Rattle.lf_floor.proofs.restored_cells.working_are_in_place.Goals as goal
use Rattle.lf_floor.proofs.restored_cells.working_are_in_place.Goals.{then-not-same_place, else-not-same_place}

pub loop-own-init : goal.loop-own-init
loop-own-init c = none_so_far c.args.team (map (λ c. c.working) c.args.saved.now) c.args.cells.now

pub loop-own-preserved : goal.loop-own-preserved
loop-own-preserved c =
    let saved = c.args.saved.now in
    let n = c.loop-own.own in
    let k = c.args.team in
    let old = c.args.cells.now in
    let now = c.loop-own.cells in
    let to = map (λ c. c.working) saved in
    let working = length-map saved (λ (s : SavedCell). s.working) in
    let committed = length-map saved (λ (s : SavedCell). s.committed) in
    let less : n < length to = omega (arith, c.loop-own-test.true, working) in
    let many : length to ≡ length (working_places_of (cells_of old k)) = working ∙ sym committed ∙ ap (λ (ps : Places). length ps) (sym c.requires) in
    let place = c.place-place.result in
    let is : place ≡ get_or to n place = c.place-place.ensures ∙ read_at (λ s. s.working) saved n c.index-saved-own.result place c.loop-own-test.true in
    elim c.if-not-same_place.branch [
      | then-not-same_place w ↦
          subst (λ (cells : Cells). ArePlacedSoFar k (n + 1) to old cells) (sym w.cells-is)
          (one_so_far k n to old now less many c.loop-own.invariant w.put_at.new.cells place is w.put_at.ensures.own w.put_at.ensures.others)
      | else-not-same_place w ↦
          let alike : place ≡ c.place.result = (w.if-not-same_place.ensures {u = tt}).0 refl in
          let there : get_or (working_places_of (cells_of old k)) n place ≡ get_or to n place =
          ap (λ (ps : Places). get_or ps n place) c.requires
          ∙ sym (read_at (λ s. s.committed) saved n c.index-saved-own-in-loop-own.result place c.loop-own-test.true)
          ∙ sym c.place.ensures ∙ sym alike ∙ is in
          subst (λ (cells : Cells). ArePlacedSoFar k (n + 1) to old cells) (sym w.cells-is)
          (there_so_far k n to old now less many c.loop-own.invariant place there)
    ]

pub returns-clause-places : goal.returns-clause-places
returns-clause-places c =
    let saved = c.args.saved.now in
    let working = length-map saved (λ (s : SavedCell). s.working) in
    let committed = length-map saved (λ (s : SavedCell). s.committed) in
    all_so_far c.args.team c.loop-own.own (map (λ c. c.working) saved) c.args.cells.now c.loop-own.cells (omega (arith, c.loop-own-test.false, working))
    (working ∙ sym committed ∙ ap (λ (ps : Places). length ps) (sym c.requires)) c.loop-own.invariant
