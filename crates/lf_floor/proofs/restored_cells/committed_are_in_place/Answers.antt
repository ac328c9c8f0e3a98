use Rattle.std.proofs.Common.{map, sym, ◌∙◌, arith}
use Rattle.std.proofs.lemmas.List.{length-map}
use Rattle.lf_cells.specs.Cells.{cells_of}
use Rattle.lf_state_text.specs.declared.saved_rows.SavedCell.{SavedCell}
use Rattle.lf_floor.proofs.Placed.{all_so_far, many_places, none_so_far, one_so_far, read_at}
use Rattle.lf_floor.proofs.restored_cells.committed_are_in_place.Goals as goal

pub loop-own-init : goal.loop-own-init
loop-own-init c = none_so_far c.args.team (map (λ c. c.committed) c.args.saved.now) c.args.cells.now

pub loop-own-preserved : goal.loop-own-preserved
loop-own-preserved c =
    let saved = c.args.saved.now in
    let n = c.loop-own.own in
    let long = length-map saved (λ (s : SavedCell). s.committed) in
    one_so_far c.args.team n (map (λ c. c.committed) saved) c.args.cells.now c.loop-own.cells (omega (arith, c.loop-own-test.true, long))
    (long ∙ c.requires ∙ sym (many_places (cells_of c.args.cells.now c.args.team))) c.loop-own.invariant c.put_at.new.cells c.place.result
    (c.place.ensures ∙ read_at (λ s. s.committed) saved n c.index-saved-own.result c.place.result c.loop-own-test.true)
    c.put_at.ensures.own c.put_at.ensures.others

pub returns-clause-places : goal.returns-clause-places
returns-clause-places c =
    let saved = c.args.saved.now in
    let long = length-map saved (λ (s : SavedCell). s.committed) in
    all_so_far c.args.team c.loop-own.own (map (λ c. c.committed) saved) c.args.cells.now c.loop-own.cells (omega (arith, c.loop-own-test.false, long))
    (long ∙ c.requires ∙ sym (many_places (cells_of c.args.cells.now c.args.team))) c.loop-own.invariant
