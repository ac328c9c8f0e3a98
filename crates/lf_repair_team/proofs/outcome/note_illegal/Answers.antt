use Rattle.std.proofs.Common.{◌≡◌, ◌∙◌, false, true, inl, inr, refl, sym}
use Rattle.lf_repair_team.proofs.Legal.{legal_is_reported, state_there, reported_legal}
use Rattle.lf_repair_team.proofs.outcome.note_illegal.Goals as goal

pub returns-then-is_cell_legal : goal.returns-then-is_cell_legal
returns-then-is_cell_legal g c =
    let floor = c.args.floor.now in
    let team = c.args.session.now.team.now in
    let number = c.args.session.now.number in
    inl (
      refl,
      λ s there within. reported_legal team floor number c.args.id.own s c.requires there within
          (c.is_cell_legal.ensures.legal s (state_there floor team number s c.requires there) c.if-is_cell_legal.true),
    )

false_true : false ≡ true → ⊥
false_true e = cc

pub returns : goal.returns
returns g c =
    let floor = c.args.floor.now in
    let team = c.args.session.now.team.now in
    let number = c.args.session.now.number in
    inr (
      c.in_ok-push.ensures.items,
      λ legal. false_true (sym c.if-is_cell_legal.false ∙ legal_is_reported team floor number c.args.id.own (c.is_cell_legal.result ≡ true) c.requires c.is_cell_legal.ensures.reported legal),
    )
