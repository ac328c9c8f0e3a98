use Rattle.std.proofs.Common.{List, subst, ◌∙◌}
use Rattle.std.specs.Prelude.{All, IfSome}
use Rattle.std.proofs.lemmas.List.{take_all}
use Rattle.std.proofs.lemmas.List.Elements.{All-more}
use Rattle.lf_undo.specs.declared.moves.Move.{Move}
use Rattle.lf_state_text.specs.Saved.{IsSpot}
use Rattle.lf_state_text.proofs.known_ranges.moves_known.Goals as goal

pub loop-known-preserved : goal.loop-known-preserved
loop-known-preserved c =
    All-more (λ (m : Move). IfSome m.place IsSpot) c.as_slice-known-items.result.now c.loop-known.known-index c.known-item.result c.loop-known-test.true c.loop-known.invariant
    (subst (λ (m : Move). IfSome m.place IsSpot) c.known-item.is c.place_known.ensures)

pub returns : goal.returns
returns c =
    subst (λ (ms : List Move). All (λ (m : Move). IfSome m.place IsSpot) ms)
    (take_all c.loop-known.known-index c.as_slice-known-items.result.now c.loop-known-test.false ∙ c.as_slice-known-items.ensures) c.loop-known.invariant
