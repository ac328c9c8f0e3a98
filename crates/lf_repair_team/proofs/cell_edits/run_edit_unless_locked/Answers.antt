use Rattle.std.proofs.Common.{◌≡◌, ◌∙◌, true, false, ap, sym}
use Rattle.std.specs.Prelude.{slice_get}
use Rattle.lf_repair_team.proofs.cell_edits.run_edit_unless_locked.Goals as goal

false_true : false ≡ true → ⊥
false_true e = cc

pub returns-clause-marked : goal.returns-clause-marked
returns-clause-marked g c = λ k marked.
    let marks = c.args.locked.now in
    let own = c.args.cell_edit.now.own in
    c.run_edit.ensures.cells k (λ (same : k ≡ own). false_true (sym c.if-is_locked.false ∙ c.is_locked.ensures.1 (ap (slice_get marks) (sym same) ∙ marked)))

pub returns-clause-legal : goal.returns-clause-legal
returns-clause-legal g c = λ k marked.
    let marks = c.args.locked.now in
    let own = c.args.cell_edit.now.own in
    c.run_edit.ensures.legal k (λ (same : k ≡ own). false_true (sym c.if-is_locked.false ∙ c.is_locked.ensures.1 (ap (slice_get marks) (sym same) ∙ marked)))

pub returns-clause-flagged : goal.returns-clause-flagged
returns-clause-flagged g c = λ k marked.
    let flags = c.args.session.now.impossible.now in
    let own = c.args.cell_edit.now.own in
    c.run_edit.ensures.cells k (λ (same : k ≡ own). false_true (sym c.if-is_locked-2.false ∙ c.is_locked-2.ensures.1 (ap (slice_get flags) (sym same) ∙ marked)))
