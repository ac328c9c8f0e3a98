use Rattle.std.proofs.Common.{◌++◌, ◌∷◌, [], arith, ap₂, sym, ◌∙◌}
use Rattle.std.proofs.lemmas.List.FromFn.{map-range_with_len_more}
use Rattle.lf_wire_length.specs.Stored.{stored_nets}
use Rattle.lf_wire_length.specs.Teams.{team_lengths}
use Rattle.lf_wire_length.proofs.team_lengths.lengths_by_team.Goals as goal

pub loop-own-preserved : goal.loop-own-preserved
loop-own-preserved g c =
    c.in_ok-push.ensures.items
    ∙ ap₂ (λ xs x. xs ++ x ∷ []) c.loop-own.invariant c.lengths_of_team.ensures
    ∙ sym (map-range_with_len_more (team_lengths (g.P.PlacedCells.place_of c.args.places.now) (g.P.PlacedCells.team_of c.args.places.now) (stored_nets c.args.stored.now)) 0 c.loop-own.own c.loop-own.own (omega arith))
