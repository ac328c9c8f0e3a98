use Rattle.std.specs.Prelude.{IfOk}
use Rattle.std.specs.Option.{option_map}
use Rattle.lf_rules.specs.Choice.{IsAllowedPlace, SpotPlace, spot_of}
use Rattle.lf_legalize.specs.RowSearches.{IsChoiceAmong, IsOnRowIn, query_of_search}
use Rattle.lf_legalize.specs.Levels.{HasBareLevel}
use Rattle.lf_legalize.proofs.LevelLemmas.{of_row}
use Rattle.lf_legalize.proofs.RowLegal.{legal_may}
use Rattle.lf_legalize.proofs.RowChoice.{none_bare, of_none}
use Rattle.lf_legalize.proofs.on_row.best_on_row.Goals as goal

pub returns-in_default : goal.returns-in_default
returns-in_default c r is =
    let s = c.args.search.now in
    let bottom = c.row_at-row.result.now in
    of_row s.frame.now c.args.number bottom r (λ b. (p : SpotPlace) → IsOnRowIn s.frame.now s.size b c.args.window.now.span p → IsAllowedPlace (query_of_search s) p → ⊥)
    c.row_at-row.ensures is (λ p on may. c.in_default.ensures p.orient (legal_may s bottom c.args.window.now.span p on may.legal))

pub returns-in_default-2 : goal.returns-in_default-2
returns-in_default-2 c r is =
    let s = c.args.search.now in
    let bottom = c.row_at-row.result.now in
    let bare : HasBareLevel s c.args.number bottom c.args.window.now.span = of_none _ _ _ c.in_default-2.is c.in_ok-lists.ensures in
    of_row s.frame.now c.args.number bottom r (λ b. (p : SpotPlace) → IsOnRowIn s.frame.now s.size b c.args.window.now.span p → IsAllowedPlace (query_of_search s) p → ⊥)
    c.row_at-row.ensures is
    (λ p on may. none_bare s c.args.number bottom c.args.window.now.span p c.row_at-row.ensures c.search_is_occupied.ensures bare on may)

pub returns-then-search-eq1 : goal.returns-then-search-eq1
returns-then-search-eq1 c r is =
    let s = c.args.search.now in
    of_row s.frame.now c.args.number c.row_at-row.result.now r (λ b. IfOk c.best_of_one.result (λ found.
    IsChoiceAmong (IsOnRowIn s.frame.now s.size b c.args.window.now.span) (query_of_search s) s.target.now (option_map spot_of found)))
    c.row_at-row.ensures is c.best_of_one.ensures

pub returns : goal.returns
returns c r is =
    let s = c.args.search.now in
    of_row s.frame.now c.args.number c.row_at-row.result.now r (λ b. IfOk c.best_at.result (λ found.
    IsChoiceAmong (IsOnRowIn s.frame.now s.size b c.args.window.now.span) (query_of_search s) s.target.now (option_map spot_of found)))
    c.row_at-row.ensures is c.best_at.ensures
