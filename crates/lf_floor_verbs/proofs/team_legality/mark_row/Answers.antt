use Rattle.std.proofs.Common.{ℕ, List, subst, sym}
use Rattle.std.specs.Prelude.{All}
use Rattle.lf_cells.specs.Cells.{id_of}
use Rattle.lf_placement.specs.Placements.{OverlapsNoCell}
use Rattle.lf_floor_verbs.proofs.team_legality.mark_row.Goals as goal

pub mark_legal_apart-requires : goal.mark_legal_apart-requires
mark_legal_apart-requires g c =
    let p = c.args.tables.now.placement in
    let number = c.args.context.now.number in
    let sites = c.args.context.now.padding.sites in
    let all = subst (λ (xs : List ℕ). All (λ own. OverlapsNoCell p sites (id_of number own)) xs) (sym c.deref-own-items.ensures.value) c.in_ok-apart.ensures in
    all c.loop-own.own-index 0 c.loop-own-test.true

pub loop-own-preserved : goal.loop-own-preserved
loop-own-preserved g c = λ are. c.mark_legal_apart.ensures (c.loop-own.invariant are)
