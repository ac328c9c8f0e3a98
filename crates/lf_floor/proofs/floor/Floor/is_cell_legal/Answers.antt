use Rattle.std.proofs.Common.{◌∙◌, sym}
use Rattle.lf_floor.proofs.Numbered.{legal_seen, legal_unseen, no_cell_seen, within_seen}
use Rattle.lf_floor.proofs.floor.Floor.is_cell_legal.Goals as goal

pub returns-in_default-clause-reported : goal.returns-in_default-clause-reported
returns-in_default-clause-reported g c = λ s there within is_in_place.
    absurd (no_cell_seen c.self.inside.tables c.args.self.now c.args.number c.args.own s c.self.view_is (sym c.cell_at.ensures ∙ c.in_default.is) there within)

pub returns-clause-legal : goal.returns-clause-legal
returns-clause-legal g c = λ s there e.
    legal_seen c.self.inside.tables c.args.self.now c.args.number c.args.own c.padding.result.sites c.in-Some.id s c.self.view_is
    (sym c.cell_at.ensures ∙ c.in-Some.is) c.padding.ensures there (c.is_cell_legal.ensures.legal e)

pub returns-clause-reported : goal.returns-clause-reported
returns-clause-reported g c = λ s there within is_in_place.
    c.is_cell_legal.ensures.reported
    (within_seen c.self.inside.tables c.args.self.now c.args.number c.args.own c.in-Some.id s c.self.view_is (sym c.cell_at.ensures ∙ c.in-Some.is) there within)
    (legal_unseen c.self.inside.tables c.args.self.now c.args.number c.args.own c.padding.result.sites c.in-Some.id s c.self.view_is
    (sym c.cell_at.ensures ∙ c.in-Some.is) c.padding.ensures there is_in_place)
