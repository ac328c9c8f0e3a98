use Rattle.std.proofs.Common.{◌≡◌, ◌∙◌, Bool, List, [], ℕ, Some, true, false, arith, get_or, subst, sym, take}
use Rattle.std.specs.Prelude.{slice_get}
use Rattle.std.proofs.lemmas.List.{take_all}
use Rattle.std.proofs.lemmas.List.Elements.{All-more, All-nil, All-same}
use Rattle.lf_repair_team.specs.CellEdits.{IsFlagged, NoneIsFlagged}
use Rattle.lf_repair_team.proofs.LastPass.{none_taken}
use Rattle.lf_repair_team.proofs.team.has_locked.Goals as goal

false_true : false ≡ true → ⊥
false_true e = cc

pub loop-own-init : goal.loop-own-init
loop-own-init c =
    All-same (λ own. IsFlagged c.args.input.now.pass.locked.items own → ⊥) (take 0 c.args.cells.now) [] (none_taken c.args.cells.now)
    (All-nil (λ own. IsFlagged c.args.input.now.pass.locked.items own → ⊥))

pub loop-own-preserved : goal.loop-own-preserved
loop-own-preserved c =
    let own = get_or c.args.cells.now c.loop-own.own-index 0 in
    All-more (λ own. IsFlagged c.args.input.now.pass.locked.items own → ⊥) c.args.cells.now c.loop-own.own-index 0 c.loop-own-test.true c.loop-own.invariant
    (λ flag. false_true (sym c.if-is_locked.false ∙ c.is_locked.ensures.1 (subst (λ (marks : List Bool). slice_get marks own ≡ Some true) (sym c.as_slice.ensures.value) flag)))

pub returns : goal.returns
returns c = λ e.
    subst (λ (xs : List ℕ). NoneIsFlagged c.args.input.now.pass.locked.items xs) (take_all c.loop-own.own-index c.args.cells.now (omega (arith, c.loop-own-test.false)))
    c.loop-own.invariant
